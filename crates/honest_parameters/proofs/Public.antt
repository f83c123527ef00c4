-- The public ones of a call's parameters, one after another.
use Rattle.std.specs.Prelude.{◌≡◌, ◌∷◌, ◌++◌, ◌+◌, ◌*◌, ◌/◌, ◌<◌, ◌≤◌}
use Rattle.kit.specs.Names.{refl, ap, ap₂, sym, ◌∙◌, Bool, true, false, cond, List, [], append-nil, append_assoc, ℕ, zero}
use Rattle.kit.specs.Names.{suc, arith, add-one, length, take, drop, set, drop_of_length-le, drop-cons}
use Rattle.kit.specs.Names.{take-suc-set}
use Rattle.definitions.specs.ContractFile.{Parameter, boolean, parameter_at, byte_at}
use Rattle.definitions.specs.Ledger.{Content, plain, content_at, public_of}
use Rattle.file_accepted.proofs.Declarations.{parameters_count}
use Rattle.ledger_contents.specs.Contents.{contents_of, content_of_five}
use Rattle.ledger_contents.proofs.FlatContents.{length_contents_of}
use Rattle.file_accepted.specs.Context.{parameters_in}
use Rattle.honest_parameters.specs.Parameters.{is_private, PublicRoom, PublicPut, Picked}

-- The first contents are those of the first fives.
pub contents_take : (r : ℕ) (flat : List ℕ) → contents_of (take (5 * r) flat) ≡ take r (contents_of flat)
unfolding contents_of
contents_take zero flat = refl
contents_take (suc r) [] = let e : 5 * suc r ≡ suc (suc (suc (suc (suc (5 * r))))) = omega arith in rw e
contents_take (suc r) (a ∷ []) = let e : 5 * suc r ≡ suc (suc (suc (suc (suc (5 * r))))) = omega arith in rw e
contents_take (suc r) (a ∷ b ∷ []) = let e : 5 * suc r ≡ suc (suc (suc (suc (suc (5 * r))))) = omega arith in rw e
contents_take (suc r) (a ∷ b ∷ c ∷ []) = let e : 5 * suc r ≡ suc (suc (suc (suc (suc (5 * r))))) = omega arith in rw e
contents_take (suc r) (a ∷ b ∷ c ∷ d ∷ []) = let e : 5 * suc r ≡ suc (suc (suc (suc (suc (5 * r))))) = omega arith in rw e
contents_take (suc r) (a ∷ b ∷ c ∷ d ∷ e ∷ rest) =
    let n : 5 * suc r ≡ suc (suc (suc (suc (suc (5 * r))))) = omega arith in
    rw n (ap (λ (cs : List Content). content_of_five a b c d e ∷ cs) (contents_take r rest))

public_first : (p : Parameter) (ps : List Parameter) (item : Content) (items : List Content)
    → public_of (p ∷ ps) (item ∷ items) ≡ cond p.private [] (item ∷ []) ++ public_of ps items
unfolding public_of
public_first p ps item items = go p.private
  where
    go : (private : Bool) → cond private (public_of ps items) (item ∷ public_of ps items) ≡ cond private [] (item ∷ []) ++ public_of ps items
    go true = refl
    go false = refl

public_none : (items : List Content) → public_of [] items ≡ []
unfolding public_of
public_none items = refl

module _ (item : Content) (flat after : List ℕ) (r : ℕ) where
  pub picked : (private : Bool) → private ≡ false → r < length flat / 5 → contents_of after ≡ set (contents_of flat) r item → Picked private item flat after r (r + 1)
  picked private e room put =
      let n = length_contents_of flat in
      record {
        contents =
            ap (λ (n : ℕ). take n (contents_of after)) (add-one r) ∙ ap (take (suc r)) put ∙ take-suc-set (contents_of flat) r item (omega arith)
            ∙ ap (λ (b : Bool). take r (contents_of flat) ++ cond b [] (item ∷ [])) (sym e);
        few = omega arith;
      }

  pub not_picked : (private : Bool) → private ≡ true → Picked private item flat flat r r
  not_picked private e =
      record {
        contents = sym (ap (λ (b : Bool). take r (contents_of flat) ++ cond b [] (item ∷ [])) e ∙ append-nil (take r (contents_of flat)));
        few = omega arith;
      }

module _ (file : List ℕ) (at : ℕ) (parameters : List ℕ) where
  abbrev public : List Content
  public = public_of (parameters_in file at) (contents_of parameters)

  abbrev left : ℕ → List Content
  left k = public_of (drop k (parameters_in file at)) (drop k (contents_of parameters))

  -- Those picked and those left are all.
  pub record Picking (flat₀ flat : List ℕ) (k r : ℕ) : Type 0 where
    pub all : take r (contents_of flat) ++ left k ≡ public
    pub few : r ≤ k
    pub size : length flat ≡ length flat₀
    pub bound : k ≤ byte_at file at

module _ (file : List ℕ) (at : ℕ) (parameters flat₀ : List ℕ) (ready : PublicRoom file at parameters flat₀) where
  left_next : (k : ℕ) → k < byte_at file at → left file at parameters k ≡ cond (is_private file at k) [] (content_at (contents_of parameters) k ∷ []) ++ left file at parameters (k + 1)
  left_next k inside =
      let n = parameters_count file at in
      let m = length_contents_of parameters in
      let room = ready.count in
      ap₂ public_of (drop-cons (parameters_in file at) k (record { type = boolean; private = true }) (omega arith))
      (drop-cons (contents_of parameters) k (plain 0) (omega arith))
      ∙ public_first (parameter_at (parameters_in file at) k) (drop (suc k) (parameters_in file at)) (content_at (contents_of parameters) k) (drop (suc k) (contents_of parameters))
      ∙ ap (λ (n : ℕ). cond (is_private file at k) [] (content_at (contents_of parameters) k ∷ []) ++ left file at parameters n) (sym (add-one k))

  pub picking_none : Picking file at parameters flat₀ flat₀ 0 0
  picking_none = record { all = refl; few = omega arith; size = refl; bound = omega arith }

  pub picking_room : (flat : List ℕ) (k r : ℕ) → Picking file at parameters flat₀ flat k r → k < byte_at file at → r < length flat / 5
  picking_room flat k r p inside = omega (arith, p.few, p.size, ready.count, ready.room)

  pub picking_more : (flat after : List ℕ) (k r next : ℕ) → Picking file at parameters flat₀ flat k r → k < byte_at file at → length after ≡ length flat
      → Picked (is_private file at k) (content_at (contents_of parameters) k) flat after r next → Picking file at parameters flat₀ after (k + 1) next
  picking_more flat after k r next p inside size picked =
      let one = cond (is_private file at k) [] (content_at (contents_of parameters) k ∷ []) in
      record {
        all =
            ap (λ (front : List Content). front ++ left file at parameters (k + 1)) picked.contents ∙ append_assoc (take r (contents_of flat)) one (left file at parameters (k + 1))
            ∙ ap (λ (rest : List Content). take r (contents_of flat) ++ rest) (sym (left_next k inside)) ∙ p.all;
        few = omega (arith, picked.few, p.few);
        size = size ∙ p.size;
        bound = omega arith;
      }

  pub picking_done : (flat : List ℕ) (k r : ℕ) → Picking file at parameters flat₀ flat k r → byte_at file at ≤ k → PublicPut file at parameters flat r
  picking_done flat k r p h =
      let n = parameters_count file at in
      let past : length (parameters_in file at) ≤ k = omega arith in
      record {
        contents =
            contents_take r flat ∙ sym (append-nil (take r (contents_of flat)))
            ∙ ap (λ (rest : List Content). take r (contents_of flat) ++ rest)
            (sym (ap (λ (ps : List Parameter). public_of ps (drop k (contents_of parameters))) (drop_of_length-le (parameters_in file at) past) ∙ public_none (drop k (contents_of parameters))))
            ∙ p.all;
        fits = omega (arith, p.few, p.size, p.bound, ready.count, ready.room);
      }
