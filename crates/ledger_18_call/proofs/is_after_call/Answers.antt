-- The numbers of the last call, then what it shows.
use Rattle.std.specs.Prelude.{◌≡◌, ◌&&◌, ◌||◌, ◌≤◌, ◌<◌}
use Rattle.kit.specs.Names.{sym, ◌∙◌, List, ℕ, arith, leb, lt-ltb, le-ltb, le-leb, lt-leb, rules}
use Rattle.definitions.specs.ContractFile.{function_count}
use Rattle.definitions.specs.Ledger.{Content, is_after_done, is_after_failed, is_after_call}
use Rattle.file_accepted.proofs.Functions.{functions_count}
use Rattle.ledger_struct.specs.Ledgers.{ledger_from}
use Rattle.ledger_struct.specs.declared.LastCall.{LastCall}
use Rattle.ledger_18_call.proofs.is_after_call.Goals as goal

-- Where the function is there.
known : (file : List ℕ) (last : LastCall) (parameters variables : List ℕ) (places : List Content)
    → 0 < last.call → last.call ≤ 65535 → last.function < function_count file
    → is_after_call (ledger_from file last parameters variables places)
    ≡ (leb last.caller 15
    && (is_after_done (ledger_from file last parameters variables places) || is_after_failed (ledger_from file last parameters variables places)))
unfolding ledger_from
known file last parameters variables places some few inside =
    rw (lt-ltb 0 last.call some, le-leb last.call 65535 few, functions_count file, lt-ltb last.function (function_count file) inside)

pub returns-then-last-eq0 : goal.returns-then-last-eq0
unfolding ledger_from
returns-then-last-eq0 c = λ places plain.
    let none : c.args.last.call ≤ 0 = omega (arith, c.if-last-eq0.true) in
    rw (le-ltb _ _ none)

pub returns-then-layout-function : goal.returns-then-layout-function
unfolding ledger_from
returns-then-layout-function c = λ places plain.
    let file = c.args.file.now in
    let last = c.args.last in
    let some : 0 < last.call = omega (arith, c.if-last-eq0.false) in
    let few : last.call ≤ 65535 = search rules in
    let past : function_count file ≤ last.function = omega (arith, c.if-layout-function.true, c.read_layout-layout.ensures.functions) in
    rw (lt-ltb 0 last.call some, le-leb last.call 65535 few, functions_count file, le-ltb last.function (function_count file) past)

pub returns-then-last-gt15 : goal.returns-then-last-gt15
unfolding ledger_from
returns-then-last-gt15 c = λ places plain.
    let a = c.args in
    let some : 0 < a.last.call = omega (arith, c.if-last-eq0.false) in
    let few : a.last.call ≤ 65535 = search rules in
    let inside : a.last.function < function_count a.file.now = omega (arith, c.if-layout-function.false, c.read_layout-layout.ensures.functions) in
    let high : 15 < a.last.caller = omega (arith, c.if-last-gt15.true) in
    sym (known a.file.now a.last a.parameters.now a.variables.now places some few inside ∙ rw (lt-leb _ 15 high))

pub returns-then-is_after_done : goal.returns-then-is_after_done
unfolding ledger_from
returns-then-is_after_done c = λ places plain.
    let a = c.args in
    let some : 0 < a.last.call = omega (arith, c.if-last-eq0.false) in
    let few : a.last.call ≤ 65535 = search rules in
    let inside : a.last.function < function_count a.file.now = omega (arith, c.if-layout-function.false, c.read_layout-layout.ensures.functions) in
    sym
    (known a.file.now a.last a.parameters.now a.variables.now places some few inside
    ∙ rw (le-leb _ 15 c.if-last-gt15.false, ← c.is_after_done.ensures places plain, c.if-is_after_done.true))

pub returns : goal.returns
unfolding ledger_from
returns c = λ places plain.
    let a = c.args in
    let some : 0 < a.last.call = omega (arith, c.if-last-eq0.false) in
    let few : a.last.call ≤ 65535 = search rules in
    let inside : a.last.function < function_count a.file.now = omega (arith, c.if-layout-function.false, c.read_layout-layout.ensures.functions) in
    sym
    (known a.file.now a.last a.parameters.now a.variables.now places some few inside
    ∙ rw (le-leb _ 15 c.if-last-gt15.false, ← c.is_after_done.ensures places plain, c.if-is_after_done.false, ← c.is_after_failed.ensures))
