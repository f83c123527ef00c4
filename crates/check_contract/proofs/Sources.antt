-- The decoded nodes are a source, and stand at the front of the room.
use Rattle.std.specs.Prelude.{◌≡◌, ◌++◌, ◌*◌}
use Rattle.kit.specs.Names.{refl, ap, ◌∙◌, List, ℕ, arith, length, take, take_at}
use Rattle.definitions.specs.ContractFile.{Sections, node_count}
use Rattle.file_bytes.specs.declared.Layout.{Layout}
use Rattle.file_bytes.specs.Layout.{IsLayout}
use Rattle.file_bytes.proofs.Sections.{nodes_are}
use Rattle.file_decoder.specs.Decoding.{Decodable, Decoded}
use Rattle.file_accepted.specs.Context.{Source}
use Rattle.file_accepted.proofs.Sources.{source_of}

pub source_decoded : (file : List ℕ) (l : Layout) (fields functions parameters nodes fields' functions' parameters' nodes' : List ℕ)
    → Decodable file l fields functions parameters nodes → Decoded file fields' functions' parameters' nodes' → length nodes' ≡ length nodes → Source file nodes'
source_decoded file l fields functions parameters nodes fields' functions' parameters' nodes' room decoded kept =
    source_of file nodes' (node_count file) refl (omega (arith, kept, room.for_nodes, room.layout.nodes)) decoded.narrow
    (ap (λ (s : Sections). s.nodes) decoded.are ∙ nodes_are file)

pub source_front : (file : List ℕ) (l : Layout) (part rest : List ℕ) → IsLayout file l → Source file part → Source file (take (5 * l.nodes) (part ++ rest))
source_front file l part rest is source = rw (take_at part rest (5 * l.nodes) (omega (arith, source.long, is.nodes))) source
