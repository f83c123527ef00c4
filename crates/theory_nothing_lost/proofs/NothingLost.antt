-- 02, Note 1: "files accepted before stay accepted and are written as before".
use Rattle.std.specs.Prelude.{◌≡◌, ◌∷◌}
use Rattle.kit.specs.Names.{Bool, true, List, [], ℕ}
use Rattle.definitions.specs.Basics.{flat_map}
use Rattle.definitions.specs.ContractFile.{Function, Contract, sections_of, contract_of}
use Rattle.definitions.specs.Owners.{no_links}
use Rattle.definitions.specs.Numbers.{field_faults, function_faults, contract_faults, contract_sentences, check_number}
use Rattle.definitions.specs.Rewriting.{write_number, output_after_writing}
use Rattle.theory_nothing_lost.specs.Claims.{Among, StaysAccepted}
use Rattle.theory_nothing_lost.specs.Base.{base_function_faults, base_contract_faults, base_contract_sentences, base_check_number}
use Rattle.theory_nothing_lost.specs.Base.{base_write_number, base_output_after_writing}
use Rattle.theory_nothing_lost.proofs.Numbers.{among_itself, among_append, among_flat_map, Implied, one, implied_sentences, none_holds}
use Rattle.theory_laws.proofs.GrowingLinks.{within_itself}
use Rattle.theory_nothing_lost.proofs.Faults.{base_helps}

contract_helps : (c : Contract) → Among (contract_faults c) (base_contract_faults c)
unfolding contract_faults base_contract_faults
contract_helps c =
    among_append (flat_map (field_faults c.fields) c.fields) (flat_map (function_faults c.fields) c.functions)
    (flat_map (field_faults c.fields) c.fields) (flat_map (base_function_faults c.fields) c.functions)
    (among_itself (flat_map (field_faults c.fields) c.fields))
    (among_flat_map (function_faults c.fields) (base_function_faults c.fields)
    (λ (g : Function). base_helps (record { fields = c.fields; parameters = g.parameters }) g.body no_links no_links (within_itself no_links))
    c.functions)

sentences_helped : (c : Contract) → Implied (contract_sentences c) (base_contract_sentences c)
sentences_helped c =
    implied_sentences (contract_faults c) (base_contract_faults c) (8 ∷ 9 ∷ 10 ∷ 11 ∷ 12 ∷ 13 ∷ 14 ∷ 15 ∷ []) (contract_helps c)

itself : {b : Bool} → b ≡ true → b ≡ true
itself h = h

stays_accepted : (file : List ℕ) → base_check_number file ≡ 0 → check_number file ≡ 0
unfolding check_number base_check_number
stays_accepted file =
    none_holds (one itself (one itself (one itself (one itself (one itself (one itself (one itself
    (sentences_helped (contract_of (sections_of file)))))))))) 0

pub nothing_is_lost : (file : List ℕ) → base_check_number file ≡ 0 → StaysAccepted file
unfolding write_number base_write_number output_after_writing base_output_after_writing
nothing_is_lost file h =
    record {
      accepted = stays_accepted file h;
      number = λ room. rw (h, stays_accepted file h);
      written = λ out. rw (h, stays_accepted file h);
    }
