-- What is read at a place of a file, where the bytes from there on are known.
use Rattle.std.specs.Prelude.{◌≡◌, ◌∷◌, ◌++◌, ◌+◌, ◌*◌, ◌%◌, ◌/◌, ◌≤◌}
use Rattle.kit.specs.Names.{refl, ap, ap₂, sym, ◌∙◌, List, [], ℕ, arith, length, get_or, drop}
use Rattle.kit.specs.Names.{get_or-drop, drop-drop, drop_at}
use Rattle.definitions.specs.Basics.{two_bytes}
use Rattle.definitions.specs.ContractFile.{byte_at, two_bytes_at}

-- From a place on, a file holds these bytes.
abbrev pub HoldsFrom : List ℕ → ℕ → List ℕ → Type 0
HoldsFrom file at bytes = drop at file ≡ bytes

module _ (file : List ℕ) (at : ℕ) where
  pub byte_read : (x : ℕ) (rest : List ℕ) → HoldsFrom file at (x ∷ rest) → byte_at file at ≡ x
  byte_read x rest h =
      let here : at ≡ at + 0 = omega arith in
      ap (λ (n : ℕ). get_or file n 0) here ∙ sym (get_or-drop at file 0 0) ∙ ap (λ (l : List ℕ). get_or l 0 0) h

  -- Behind a run of known length stands what follows it.
  pub behind_run : (run rest : List ℕ) (next n : ℕ) → HoldsFrom file at (run ++ rest) → length run ≡ n → next ≡ at + n → HoldsFrom file next rest
  behind_run run rest next n h l e =
      ap (λ (k : ℕ). drop k file) e ∙ sym (drop-drop n at file) ∙ ap (drop n) h ∙ drop_at run rest n l

two_bytes_make : (n : ℕ) → n ≤ 65535 → n % 256 + 256 * (n / 256 % 256) ≡ n
two_bytes_make n few = omega arith

pub two_read : (file : List ℕ) (at n : ℕ) (rest : List ℕ) → n ≤ 65535 → HoldsFrom file at (two_bytes n ++ rest) → two_bytes_at file at ≡ n
two_read file at n rest few h =
    let low = byte_read file at (n % 256) (n / 256 % 256 ∷ rest) h in
    let next = behind_run file at (n % 256 ∷ []) (n / 256 % 256 ∷ rest) (at + 1) 1 h refl refl in
    let high = byte_read file (at + 1) (n / 256 % 256) rest next in
    ap₂ (λ (a b : ℕ). a + 256 * b) low high ∙ two_bytes_make n few
