-- The names of the kit's libraries that definitions, contracts and proofs use, passed on from one place.
pub use Rattle.std.specs.Prelude.{◌≡◌, refl, Bool, true, false, cond, ◌||◌, not, ◌&&◌, ◌⊎◌, ℕ, ◌<◌, ◌≤◌, ◌*◌, min, suc}
pub use Rattle.std.specs.Prelude.{◌/◌, zero, ◌+◌, ◌-◌, max, ◌%◌, ◌^◌, leb, ltb, eqb, length, take, get_or, replicate}
pub use Rattle.std.specs.Prelude.{set, drop}
pub use Rattle.std.proofs.Common.{ap, sym, ◌∙◌, ap₂, subst, true≢false, inl, inr, ⊎_elim, arith, add-one, add-zero}
pub use Rattle.std.proofs.Common.{zero-add, le_of_lt, lt_of_le_of_lt, mul-le-mul_left, mul-lt-mul_of_pos_right}
pub use Rattle.std.proofs.Common.{add_assoc, add-suc, suc-add, mod-lt, div-le_self, zero-mul, one-mul, add-mul}
pub use Rattle.std.proofs.Common.{mod-eq_of_lt, ltb→lt, length-set, length-drop, drop_of_length-le, length-append}
pub use Rattle.std.proofs.Common.{length-take, take-append-drop, length-take-le, get_or-set_same, get_or-set_other}
pub use Rattle.std.proofs.Common.{take_at, take_all, drop-cons, drop-drop, get_or-drop, take-suc-set, take-suc}
pub use Rattle.std.proofs.Common.{take-take, drop_at, drop-set-lt, get_or-take, get_or-append-add, ext_get_or, eq-eqb}
pub use Rattle.std.proofs.Common.{ne_eqb, lt-ltb, le-ltb, leb-false, ltb-true, ltb-false, le-leb, leb-true, eqb-true}
pub use Rattle.std.proofs.Common.{rules}
pub use Rattle.std.proofs.Math.Path.{subst⁻¹, fun_ext}
pub use Rattle.std.proofs.Math.Bool.{or-true, or-false, or_comm, or_assoc, and-true, and_assoc}
pub use Rattle.std.proofs.lemmas.Bool.{false≢true, not-true, not-false, lt-leb, eqb-false}
pub use mathlib.Core.List.Memᴰ.{head as member_head}
pub use mathlib.Core.List.Memᴰ.{tail as member_tail}
pub use mathlib.Core.List.{List, [], map, ◌∷◌, ◌++◌, append-nil, append_assoc, map-append, Memᴰ as Member}
pub use mathlib.Core.List.Memᴰ.{append_cases as member_append_cases}
pub use mathlib.Core.List.Memᴰ.{append_left as member_append_left}
pub use mathlib.Core.List.Memᴰ.{append_right as member_append_right}
pub use mathlib.Core.List.Memᴰ.{eq_of_singleton as member_eq_of_singleton}
pub use mathlib.Core.List.Memᴰ.{not-nil as member_not_nil}
unfoldable pub use mathlib.Core.List.{zip_with}
pub use Rattle.std.proofs.Math.Option.{none, Option, some, none-ne-some as none_ne_some}
pub use Rattle.std.proofs.Math.Option.{some-injective as some_injective}
pub use Rattle.std.proofs.Math.Nat.{max-le, div-zero, mod-zero, mod-le}
pub use Rattle.std.proofs.lemmas.List.{get_or-replicate, length-map, length-replicate, replicate-append-replicate}
pub use Rattle.std.proofs.lemmas.List.{set_at, take-append-le, get_or_at}
pub use Rattle.std.proofs.Math.ListN.{get_or-eq_default as get_or_eq_default, get_or-map as get_or_map}
pub use Rattle.std.proofs.Math.ListN.{get_or-append as get_or_append}
pub use Rattle.std.proofs.Math.Seq.{slice, append_snoc, set_out, drop-append-add, drop-length, take-append_seam}
pub use Rattle.std.proofs.Math.Seq.{take-length}
pub use Rattle.std.proofs.lemmas.List.Edits.{sets-eq}
pub use borrow.Fn.Kinds.{In}
pub use borrow.Fn.PlainCycle.{Measures, is, falls, and}
