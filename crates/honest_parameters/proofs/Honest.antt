-- Honest parameters, one after another.
use Rattle.std.specs.Prelude.{◌≡◌, ◌∷◌, ◌+◌, ◌*◌, ◌<◌, ◌≤◌}
use Rattle.kit.specs.Names.{refl, ap, ap₂, sym, ◌∙◌, Bool, true, false, cond, not, List, [], ℕ, zero, suc}
use Rattle.kit.specs.Names.{arith, eqb, length, get_or, take, set, eq-eqb, ne_eqb}
use Rattle.definitions.specs.ContractFile.{Parameter, parameter_at, byte_at, parameter_of}
use Rattle.definitions.specs.Original.{Reader, anyone, only}
use Rattle.definitions.specs.Ledger.{Content, plain, content_for, honest_parameters}
use Rattle.file_accepted.proofs.Declarations.{parameters_count}
use Rattle.ledger_contents.specs.Contents.{contents_of}
use Rattle.ledger_contents.proofs.FlatContents.{length_contents_of}
use Rattle.file_accepted.specs.Context.{parameters_in}
use Rattle.file_accepted.proofs.Declarations.{parameter_declared}
use Rattle.ledger_numbers.proofs.Filling.{filled_more, filled_whole}
use Rattle.honest_parameters.specs.Parameters.{is_private, reader_for, ParametersRoom}

-- By the byte of parameter k's owner.
module _ (file : List ℕ) (at k owner : ℕ) (inside : k < byte_at file at) (same : owner ≡ byte_at file (at + 1 + 2 * k + 1)) where
  private_is_law : is_private file at k ≡ not (eqb owner 0)
  unfolding parameter_of
  private_is_law = ap (λ (p : Parameter). p.private) (parameter_declared file at k inside) ∙ ap (λ (n : ℕ). not (eqb n 0)) (sym same)

  pub public_here : owner ≡ 0 → is_private file at k ≡ false
  public_here e = private_is_law ∙ ap not (eq-eqb owner 0 e)

  pub private_here : (owner ≡ 0 → ⊥) → is_private file at k ≡ true
  private_here n = private_is_law ∙ ap not (ne_eqb owner 0 n)

  pub reader_public : (caller : ℕ) → owner ≡ 0 → anyone ≡ reader_for file at k caller
  reader_public caller e = sym (ap (λ (private : Bool). cond private (only caller) anyone) (public_here e))

  pub reader_private : (caller : ℕ) → (owner ≡ 0 → ⊥) → only caller ≡ reader_for file at k caller
  reader_private caller n = sym (ap (λ (private : Bool). cond private (only caller) anyone) (private_here n))

module _ (caller call : ℕ) where
  honest_length : (k : ℕ) (ps : List Parameter) (arguments : List ℕ) → length arguments ≡ length ps → length (honest_parameters caller call k ps arguments) ≡ length ps
  unfolding honest_parameters
  honest_length k [] arguments h = refl
  honest_length k (p ∷ ps) [] h = absurd (omega arith)
  honest_length k (p ∷ ps) (v ∷ arguments) h = ap suc (honest_length (suc k) ps arguments (omega arith))

  honest_at : (k : ℕ) (ps : List Parameter) (arguments : List ℕ) (i : ℕ) → i < length ps → length arguments ≡ length ps
      → get_or (honest_parameters caller call k ps arguments) i (plain 0)
      ≡ content_for (cond (parameter_at ps i).private (only caller) anyone) call (k + i) (get_or arguments i 0)
  unfolding honest_parameters
  honest_at k [] arguments i h l = absurd (omega arith)
  honest_at k (p ∷ ps) [] i h l = absurd (omega arith)
  honest_at k (p ∷ ps) (v ∷ arguments) zero h l =
      let e : k ≡ k + 0 = omega arith in
      ap (λ (n : ℕ). content_for (cond p.private (only caller) anyone) call n v) e
  honest_at k (p ∷ ps) (v ∷ arguments) (suc i) h l =
      let e : suc k + i ≡ k + suc i = omega arith in
      honest_at (suc k) ps arguments i (omega arith) (omega arith)
      ∙ ap (λ (n : ℕ). content_for (cond (parameter_at ps i).private (only caller) anyone) call n (get_or arguments i 0)) e

  module _ (file : List ℕ) (at : ℕ) (arguments flat₀ : List ℕ) (ready : ParametersRoom file at arguments flat₀) where
    abbrev honest : List Content
    honest = honest_parameters caller call 0 (parameters_in file at) arguments

    same_count : length arguments ≡ length (parameters_in file at)
    same_count = ready.count ∙ sym (parameters_count file at)

    pub parameter_more : (flat after : List ℕ) (k v : ℕ) (reader : Reader) (content : Content) → k < length arguments → length flat ≡ length flat₀
        → take k (contents_of flat) ≡ take k honest → reader ≡ reader_for file at k caller → v ≡ get_or arguments k 0 → content ≡ content_for reader call k v
        → contents_of after ≡ set (contents_of flat) k content → take (k + 1) (contents_of after) ≡ take (k + 1) honest
    parameter_more flat after k v reader content inside size same r e c put =
        let n = same_count in
        let whole = honest_length 0 (parameters_in file at) arguments same_count in
        let held = length_contents_of flat in
        let room = ready.room in
        let start : k ≡ 0 + k = omega arith in
        filled_more honest (contents_of flat) (contents_of after) k content (plain 0) (omega arith) (omega arith) same
        (c ∙ ap₂ (λ (r : Reader) (v : ℕ). content_for r call k v) r e ∙ ap (λ (n : ℕ). content_for (reader_for file at k caller) call n (get_or arguments k 0)) start ∙ sym (honest_at 0 (parameters_in file at) arguments k (omega arith) same_count)) put

    pub parameters_done : (flat : List ℕ) (k : ℕ) → length arguments ≤ k → length flat ≡ length flat₀ → take k (contents_of flat) ≡ take k honest → contents_of flat ≡ honest
    parameters_done flat k h size same =
        let n = same_count in
        let whole = honest_length 0 (parameters_in file at) arguments same_count in
        let held = length_contents_of flat in
        let room = ready.room in
        filled_whole honest (contents_of flat) k (omega arith) (omega arith) same
