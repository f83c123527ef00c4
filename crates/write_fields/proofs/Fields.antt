-- A field in the tables is written as it stands, but for its type; fields one after another.
use Rattle.std.specs.Prelude.{◌≡◌, ◌&&◌, ◌||◌, ◌∷◌, ◌++◌, ◌+◌, ◌*◌, ◌-◌, ◌<◌, ◌≤◌}
use Rattle.kit.specs.Names.{refl, ap, sym, ◌∙◌, subst, Bool, true, false, not, cond, true≢false, List, [], map}
use Rattle.kit.specs.Names.{ℕ, zero, suc, arith, eqb, leb, length, length-append, leb-true, eqb-true}
use Rattle.definitions.specs.Basics.{flat_map, is_zero}
use Rattle.definitions.specs.ContractFile.{shape_code, byte_at, field_count, shape_of, is_final_code, field_owner_of_code, field_owner_code, field_records, field_of}
use Rattle.definitions.specs.Reading.{fields_read}
use Rattle.definitions.specs.Numbers.{field_in_tables}
use Rattle.definitions.specs.Rewriting.{field_bytes}
use Rattle.theory_laws.proofs.Codes.{type_code}
use Rattle.theory_laws.proofs.TruthValues.{and_left, and_right}
use Rattle.file_bytes.proofs.Sections.{fields_are}
use Rattle.memory_append.specs.Append.{Appended, Appending}
use Rattle.memory_append.proofs.Appending.{appended_then, three_appended, appending_room, appending_next, appending_done}
use Rattle.file_accepted.specs.Context.{fields_in}
use Rattle.write_fields.specs.Fields.{field_read, written_type, written_field, fields_from, field_section, FieldsListed}

shape_kept : (code : ℕ) → code ≤ 2 → shape_code (shape_of code) ≡ code
shape_kept zero h = refl
shape_kept (suc zero) h = refl
shape_kept (suc (suc zero)) h = refl
shape_kept (suc (suc (suc code))) h = absurd (omega arith)

-- An owner of the tables: everyone, a mapping's key, or a final.
owner_kept : (owner : ℕ) (b : Bool) → (is_zero owner || is_final_code owner || (eqb owner 2 && b)) ≡ true → field_owner_code (field_owner_of_code owner) ≡ owner
owner_kept owner b h = go (eqb owner 0) refl (eqb owner 2) refl (leb 16 owner) refl
  where
    go : (zeroth : Bool) → eqb owner 0 ≡ zeroth → (second : Bool) → eqb owner 2 ≡ second → (final : Bool) → leb 16 owner ≡ final
        → field_owner_code (field_owner_of_code owner) ≡ owner
    go true e second g final f = rw e (sym (eqb-true owner 0 e))
    go false e true g final f = rw (e, g) (sym (eqb-true owner 2 g))
    go false e false g true f = let l = leb-true 16 owner f in rw (e, g) (omega arith)
    go false e false g false f = absurd (true≢false (sym (rw (e, g, f) at h)))

module _ (shape type owner : ℕ) (listed : field_in_tables (field_read shape type owner) ≡ true) where
  abbrev owner_listed : Bool
  owner_listed = is_zero owner || is_final_code owner || (eqb owner 2 && eqb shape 2)

  abbrev final_listed : Bool
  final_listed = not (eqb shape 1) || (eqb type 2 && is_zero owner)

  three_listed : (leb shape 2 && leb type 2 && owner_listed) ≡ true
  unfolding field_in_tables
  three_listed = and_left (leb shape 2 && leb type 2 && owner_listed) final_listed listed

  two_listed : (leb shape 2 && leb type 2) ≡ true
  two_listed = and_left (leb shape 2 && leb type 2) owner_listed three_listed

  field_kept : written_field (field_read shape type owner) ≡ shape ∷ written_type type owner ∷ owner ∷ []
  unfolding written_field field_of
  field_kept =
      let s = shape_kept shape (leb-true shape 2 (and_left (leb shape 2) (leb type 2) two_listed)) in
      let t = type_code type (leb-true type 2 (and_right (leb shape 2) (leb type 2) two_listed)) in
      let o = owner_kept owner (eqb shape 2) (and_right (leb shape 2 && leb type 2) owner_listed three_listed) in
      (λ k. s k ∷ cond (eqb (o k) 0) (t k) 3 ∷ o k ∷ [])

  pub field_appended : (held between later after : List ℕ) (at middle next end written : ℕ) → at + 3 ≤ length held → written ≡ written_type type owner
      → Appended held between at (shape ∷ []) middle → Appended between later middle (written ∷ []) next → Appended later after next (owner ∷ []) end
      → Appended held after at (written_field (field_read shape type owner)) end
  field_appended held between later after at middle next end written fits e a b c =
      let same : shape ∷ written ∷ owner ∷ [] ≡ written_field (field_read shape type owner) = ap (λ (n : ℕ). shape ∷ n ∷ owner ∷ []) e ∙ sym field_kept in
      subst (λ (l : List ℕ). Appended held after at l end) same
      (three_appended held at (shape ∷ []) (written ∷ []) (owner ∷ []) fits between later after middle next end a b c)

module _ (file : List ℕ) where
  fields_suc : (n at : ℕ) → fields_from (suc n) file at ≡ written_field (field_read (byte_at file at) (byte_at file (at + 1)) (byte_at file (at + 2))) ++ fields_from n file (at + 3)
  unfolding fields_from written_field fields_read flat_map
  fields_suc n at = refl

  fields_next : (left at : ℕ) → 0 < left
      → fields_from left file at ≡ written_field (field_read (byte_at file at) (byte_at file (at + 1)) (byte_at file (at + 2))) ++ fields_from (left - 1) file (at + 3)
  fields_next left at h = let e : left ≡ suc (left - 1) = omega arith in ap (λ (n : ℕ). fields_from n file at) e ∙ fields_suc (left - 1) at

  fields_none : (left at : ℕ) → left ≡ 0 → fields_from left file at ≡ []
  unfolding fields_from fields_read flat_map
  fields_none left at e = ap (λ (n : ℕ). flat_map field_bytes (map field_of (field_records n file at))) e

  three_bytes : (n at : ℕ) → length (fields_from n file at) ≡ 3 * n
  unfolding fields_from fields_read flat_map
  three_bytes zero at = refl
  three_bytes (suc n) at = let e = three_bytes n (at + 3) in omega arith

  -- The field that the loop has come to.
  pub field_listed_law : (count i shape type owner : ℕ) → FieldsListed file count → i < count
      → shape ≡ byte_at file (1 + 3 * i) → type ≡ byte_at file (1 + 3 * i + 1) → owner ≡ byte_at file (1 + 3 * i + 2)
      → field_in_tables (field_read shape type owner) ≡ true
  field_listed_law count i shape type owner l inside s t o = ap field_in_tables (λ k. field_read (s k) (t k) (o k)) ∙ l.listed i inside

  module _ (held : List ℕ) (from count : ℕ) (fits : from + 3 * count ≤ length held) where
    abbrev whole : List ℕ
    whole = fields_from count file 1

    whole_fits : from + length whole ≤ length held
    whole_fits = let e = three_bytes count 1 in omega arith

    pub fields_room : (now : List ℕ) (at left place : ℕ) → 0 < left → Appending held now from at whole (fields_from left file place) → at + 3 ≤ length now
    fields_room now at left place some a =
        let one = written_field (field_read (byte_at file place) (byte_at file (place + 1)) (byte_at file (place + 2))) in
        let three : length one ≡ 3 = field_length place in
        let room = appending_room held from whole now one (fields_from left file place) (fields_from (left - 1) file (place + 3)) at (fields_next left place some) a whole_fits in
        omega arith
      where
        field_length : (p : ℕ) → length (written_field (field_read (byte_at file p) (byte_at file (p + 1)) (byte_at file (p + 2)))) ≡ 3
        field_length p = let e = ap length (fields_suc 0 p) in let l = length-append (written_field (field_read (byte_at file p) (byte_at file (p + 1)) (byte_at file (p + 2)))) (fields_from 0 file (p + 3)) in let m = three_bytes 1 p in let z = three_bytes 0 (p + 3) in omega arith

    pub fields_appended : (now after : List ℕ) (at left place end shape type owner : ℕ) → 0 < left → shape ≡ byte_at file place → type ≡ byte_at file (place + 1) → owner ≡ byte_at file (place + 2)
        → Appending held now from at whole (fields_from left file place) → Appended now after at (written_field (field_read shape type owner)) end
        → Appending held after from end whole (fields_from (left - 1) file (place + 3))
    fields_appended now after at left place end shape type owner some s t o a b =
        let here : fields_from left file place ≡ written_field (field_read shape type owner) ++ fields_from (left - 1) file (place + 3) =
        fields_next left place some ∙ (λ k. written_field (field_read (sym s k) (sym t k) (sym o k)) ++ fields_from (left - 1) file (place + 3)) in
        appending_next held from whole now (written_field (field_read shape type owner)) (fields_from left file place) (fields_from (left - 1) file (place + 3)) at here a whole_fits after end b

    pub fields_done : (now : List ℕ) (at left place : ℕ) → left ≡ 0 → Appending held now from at whole (fields_from left file place) → Appended held now from whole at
    fields_done now at left place e a = appending_done held from whole now (fields_from left file place) at (fields_none left place e) a

  section_is : field_section file ≡ field_count file ∷ fields_from (field_count file) file 1
  unfolding fields_in fields_from
  section_is = rw (fields_are file)

  pub section_length : length (field_section file) ≡ 1 + 3 * field_count file
  section_length = let e = ap length section_is in let l = three_bytes (field_count file) 1 in omega arith

  pub section_appended : (held between after : List ℕ) (at middle end count : ℕ) → count ≡ field_count file → at + 1 + 3 * field_count file ≤ length held
      → Appended held between at (count ∷ []) middle → Appended between after middle (fields_from count file 1) end → Appended held after at (field_section file) end
  section_appended held between after at middle end count e fits a b =
      let same : count ∷ fields_from count file 1 ≡ field_section file = ap (λ (n : ℕ). n ∷ fields_from n file 1) e ∙ sym section_is in
      subst (λ (l : List ℕ). Appended held after at l end) same (appended_then held at between after (count ∷ []) (fields_from count file 1) middle end a (omega arith) b)
