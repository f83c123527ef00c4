-- Events in turn stand in a log one behind another.
use Rattle.std.specs.Prelude.{◌≡◌, ◌++◌, ◌+◌, ◌*◌}
use Rattle.kit.specs.Names.{ap, sym, subst, ◌∙◌, List, ℕ, arith, length, length-append}
use Rattle.definitions.specs.ContractFile.{Scope, Node}
use Rattle.rewrite_events.specs.Events.{Event, variable_count, steps_of, Events, in_turn}
use Rattle.rewrite_events.proofs.Appended.{variable_count_append, steps_append}
use Rattle.rewrite_log.specs.declared.Position.{Position}
use Rattle.write_logged_steps.specs.Held.{HoldsEvents}
use Rattle.write_logged_steps.proofs.Apart.{holds_first, holds_second}
use Rattle.write_bodies.specs.Bodies.{Behind}
use Rattle.write_bodies.proofs.Guards.{Alike}

pub turn_first : (nodes : List Node) (log : List ℕ) (from : ℕ) (a b : Events) (i : ℕ) → HoldsEvents nodes log from (in_turn a b i) → HoldsEvents nodes log from (a i)
unfolding in_turn
turn_first nodes log from a b i h = holds_first nodes log from (a i) _ h

-- The second of two stand behind the first, or behind others as many that make as many variables.
pub turn_second : (nodes : List Node) (log : List ℕ) (p q : Position) (a b c : Events) → Alike a c → Behind p (c p.variable) q
    → HoldsEvents nodes log p.at (in_turn a b p.variable) → HoldsEvents nodes log q.at (b q.variable)
unfolding in_turn
turn_second nodes log p q a b c alike behind h =
    let place : p.at + 5 * length (a p.variable) ≡ q.at = ap (λ (n : ℕ). p.at + 5 * n) (alike.lengths _ _) ∙ sym behind.place in
    let variable : p.variable + variable_count (a p.variable) ≡ q.variable = ap (λ (n : ℕ). p.variable + n) (alike.variables _ _) ∙ sym behind.variable in
    subst (λ (m : ℕ). HoldsEvents nodes log m (b q.variable)) place
    (subst (λ (m : ℕ). HoldsEvents nodes log (p.at + 5 * length (a p.variable)) (b m)) variable
    (holds_second nodes log p.at (a p.variable) _ h))

-- There are as many steps of both as of each.
pub steps_both : (scope : Scope) (first second : List Event) → length (steps_of scope (first ++ second)) ≡ length (steps_of scope first) + length (steps_of scope second)
steps_both scope first second = ap length (steps_append scope first second) ∙ length-append (steps_of scope first) (steps_of scope second)

pub turn_steps : (scope : Scope) (p q : Position) (a b c : Events) → Alike a c → Behind p (c p.variable) q
    → length (steps_of scope (in_turn a b p.variable)) ≡ length (steps_of scope (a p.variable)) + length (steps_of scope (b q.variable))
unfolding in_turn
turn_steps scope p q a b c alike behind =
    steps_both scope (a p.variable) _
    ∙ ap (λ (m : ℕ). length (steps_of scope (a p.variable)) + length (steps_of scope (b m)))
    (ap (λ (n : ℕ). p.variable + n) (alike.variables _ _) ∙ sym behind.variable)

-- One behind another.
pub behind_both : (p q r : Position) (first second : List Event) → Behind p first q → Behind q second r → Behind p (first ++ second) r
behind_both p q r first second h k =
    let events = length-append first second in
    let variables = variable_count_append first second in
    record { place = omega (arith, h.place, k.place); variable = omega (arith, h.variable, k.variable) }
