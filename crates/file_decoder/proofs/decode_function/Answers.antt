-- Three numbers, stored in a row, and the parameters behind those of the functions before.
use Rattle.std.specs.Prelude.{◌≡◌, ◌∷◌, ◌+◌, ◌*◌, ◌-◌, ◌≤◌}
use Rattle.kit.specs.Names.{ap, ◌∙◌, List, [], ℕ, suc, arith, add-one, length, set, length-set, sets-eq}
use Rattle.definitions.specs.ContractFile.{function_end, two_bytes_at}
use Rattle.memory_buffer.specs.Buffer.{stored}
use Rattle.file_node_decoder.specs.Numbers.{bytes_at}
use Rattle.file_decoder.proofs.decode_function.Goals as goal

three-stored : (held : List ℕ) (at a b c : ℕ) (values : List ℕ) → a ∷ b ∷ c ∷ [] ≡ values → at + 3 ≤ length held
    → set (set (set held at a) (at + 1) b) (at + 2) c ≡ stored held at values
unfolding stored
three-stored held at a b c values same fits =
    let two : at + 2 ≡ suc (suc at) = omega arith in
    rw (← same, add-one, two) (sets-eq (a ∷ b ∷ c ∷ []) held at fits)

pub bounds-functions-at-2 : goal.bounds-functions-at-2
bounds-functions-at-2 c = simp length-set (omega arith)

pub bounds-functions-at-3 : goal.bounds-functions-at-3
bounds-functions-at-3 c = simp length-set (omega arith)

pub returns : goal.returns
returns c = let args = c.args in
    let (count_is, small) = c.byte_in-count.ensures in
    let place : args.from + 1 + 2 * c.byte_in-count.result ≡ function_end args.file.now args.from - 2 = omega arith in
    let root_is = c.two_bytes_in.ensures ∙ ap (two_bytes_at args.file.now) place in record {
      value = (count_is, small);
      functions_after = (
        three-stored args.functions.now args.at _ _ _ _ (cc) (omega arith),
        c.copy_bytes.ensures ∙ ap (λ (n : ℕ). stored args.parameters.now args.first (bytes_at args.file.now (args.from + 1) (2 * n))) count_is,
      );
    }
