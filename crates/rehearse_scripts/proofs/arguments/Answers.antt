use Rattle.kit.specs.Names.{ap, sym, ◌∙◌, ℕ, take}
use Rattle.rehearse_scripts.proofs.Reading.{arguments_start_law}
use Rattle.rehearse_scripts.proofs.arguments.Goals as goal

pub returns : goal.returns
returns c = let call = c.read_call-call.ensures in let (room, stand) = c.numbers_at.ensures in
    record { room = room; stand = ap (λ (n : ℕ). take n c.numbers_at.result) (sym call.arguments) ∙ stand ∙ arguments_start_law _ _ _ call }
