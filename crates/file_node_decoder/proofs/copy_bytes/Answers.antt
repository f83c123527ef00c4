use Rattle.std.specs.Prelude.{◌≡◌, ◌∷◌, ◌+◌, ◌<◌, ◌≤◌}
use Rattle.kit.specs.Names.{refl, ap, sym, ◌∙◌, List, [], ℕ, arith, length, take, drop, rules}
use Rattle.kit.specs.Names.{length-drop, length-take-le, get_or-drop, get_or-take, take_all}
use Rattle.definitions.specs.ContractFile.{byte_at}
use Rattle.memory_buffer.specs.Buffer.{stored}
use Rattle.memory_append.proofs.Appending.{copied_start, copied_next}
use Rattle.file_node_decoder.specs.Numbers.{bytes_at}
use Rattle.file_node_decoder.proofs.copy_bytes.Goals as goal

module _ (file : List ℕ) (from count : ℕ) (there : from + count ≤ length file) where
  long : length (bytes_at file from count) ≡ count
  long = length-take-le count (drop from file) (omega (arith, length-drop from file))

  all : (i : ℕ) → count ≤ i → take i (bytes_at file from count) ≡ bytes_at file from count
  all i h = take_all i (bytes_at file from count) (omega (arith, long))

  next : (held : List ℕ) (at : ℕ) (numbers after : List ℕ) (i value : ℕ) → at + count ≤ length held → i < count → numbers ≡ stored held at (take i (bytes_at file from count))
      → value ≡ byte_at file (from + i) → after ≡ stored numbers (at + i) (value ∷ []) → after ≡ stored held at (take (i + 1) (bytes_at file from count))
  next held at numbers after i value fits inside so_far byte put =
      let read = get_or-take count (drop from file) i 0 inside ∙ get_or-drop from file i 0 in
      copied_next held at (bytes_at file from count) numbers after i so_far (put ∙ ap (λ (v : ℕ). stored numbers (at + i) (v ∷ [])) (byte ∙ sym read))
      (omega (arith, long)) (omega (arith, long))

pub loop-i-init : goal.loop-i-init
loop-i-init c = let args = c.args in (copied_start _ _ (bytes_at args.file.now args.from args.count), refl)

pub loop-i-preserved : goal.loop-i-preserved
loop-i-preserved c = (
  next _ c.args.from _ c.requires.0 _ _ _ _ _ _ c.requires.1 (omega arith) c.loop-i.invariant.0 c.byte_in.ensures.0 c.put_number.ensures,
  search rules,
)

pub returns : goal.returns
returns c =
    c.loop-i.invariant.0 ∙ ap (stored c.args.numbers.now c.args.at) (all _ c.args.from _ c.requires.0 _ (omega arith))
