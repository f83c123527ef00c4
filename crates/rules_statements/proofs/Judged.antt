-- What judging a statement's node of each kind answers, and leaves in the classes and the column, from what judging its parts did.
use Rattle.std.specs.Prelude.{◌≡◌, ◌||◌, ◌++◌, ◌*◌, ◌/◌, ◌<◌, ◌≤◌}
use Rattle.kit.specs.Names.{refl, ap, ap₂, sym, ◌∙◌, false, List, ℕ, min, arith, length, take, drop}
use Rattle.definitions.specs.ContractFile.{Node, Expression, Statement, Scope, NodeRecord}
use Rattle.definitions.specs.Owners.{Links, linked_in_both, links_after, links_of_condition}
use Rattle.definitions.specs.Numbers.{statement_faults, condition_faults}
use Rattle.theory_laws.proofs.GrowingLinks.{within_chain, condition_grows, links_grow}
use Rattle.theory_trees.specs.Trees.{expression_in, statement_in, Reads}
use Rattle.theory_trees.proofs.ByKind as trees
use Rattle.theory_trees.proofs.ByKind.{Still}
use Rattle.file_decoded.specs.Slices.{node_from}
use Rattle.rules_faults.specs.Faults.{least_fault}
use Rattle.rules_faults.proofs.Faults.{least_append, least_none}
use Rattle.rules_links.specs.Classes.{Classed, linked_by}
use Rattle.rules_links.proofs.Growing.{nothing_learnt, learnt_as, learnt_both}
use Rattle.rules_meet.specs.Branches.{GrownFrom, Behind}
use Rattle.rules_scopes.specs.Trees.{nodes_in}
use Rattle.rules_scopes.specs.Scopes.{Ready, IsField, field_on, scope_from}
use Rattle.rules_scopes.specs.declared.Declared.{Declared}
use Rattle.rules_scopes.proofs.Nodes.{node_reads}
use Rattle.rules_judgements.specs.declared.Judged.{Judged}
use Rattle.rules_assignments.specs.Putting.{field_fault, entry_put_fault}
use Rattle.rules_assignments.proofs.Putting.{field_fault_is, entry_put_fault_is}
use Rattle.rules_marks.specs.Marks.{owner_at}
use Rattle.rules_marks.proofs.Marking.{marked_length}
use Rattle.rules_marks.proofs.Parts.{none_marked, sequence_marked, put_marked, required_marked, entry_put_marked, conditional_marked}
use Rattle.rules_expressions.specs.Marking.{MarkedAs}
use Rattle.rules_expressions.proofs.Judging as judging
use Rattle.rules_statements.specs.Checking.{CheckedAs, JudgedCondition, JudgedStatement}
use Rattle.rules_branches.proofs.Arrays.{array_long, array_front}
use Rattle.rules_branches.specs.declared.Checked.{Checked}

pub condition_long : {scope : Scope} {nodes : List Node} {n : ℕ} {classes classes' owners owners' : List ℕ} {r : Checked}
    → JudgedCondition scope nodes n classes classes' owners owners' r → length owners' ≡ length owners
condition_long h = ap length h.column ∙ marked_length _ _ _

pub column_long : {scope : Scope} {nodes : List Node} {n : ℕ} {classes classes' owners owners' : List ℕ} {r : Checked}
    → JudgedStatement scope nodes n classes classes' owners owners' r → length owners' ≡ length owners
column_long h = ap length h.column ∙ marked_length _ _ _

pub classed_as : {given classes : List ℕ} → given ≡ classes → Classed classes → Classed given
classed_as e h = rw e h

-- The arrays that hold the classes before an if and those at the end of its else-branch, as far as the classes go.
pub branch_arrays : {scope : Scope} {nodes : List Node} {k m n : ℕ} {classes learnt taken passed owners mid later owners' : List ℕ} {met one two : Checked}
    (room : List ℕ) → Classed classes → (74 ≡ length room) × (take (length classes) room ≡ classes)
    → JudgedCondition scope nodes k classes learnt owners mid met → JudgedStatement scope nodes m learnt taken mid later one
    → JudgedStatement scope nodes n (take (length classes) room) passed later owners' two
    → (take (length taken) room ≡ classes) × (take (length taken) (passed ++ drop (length classes) room) ≡ passed) × (length taken ≤ 74)
    × (74 ≡ length (passed ++ drop (length classes) room))
branch_arrays {classes = classes} {passed = passed} room classed (roomy, front) met one two =
    let same = one.checked.learnt.long ∙ met.learnt.long in
    let own = two.checked.learnt.long ∙ ap length front in (
      rw same front,
      rw same (array_front passed (drop (length classes) room) (length classes) own),
      omega (arith, same, classed.few),
      roomy ∙ sym (array_long passed room (length classes) own (omega (arith, classed.few, roomy))),
    )

module _ (fields parameters nodes classes owners : List ℕ) (ready : Ready fields parameters nodes (length classes)) (n : ℕ) (inside : n < length nodes / 5)
    (r : NodeRecord) (same : r ≡ node_from nodes (5 * n)) (q : Checked) where
  reads : Reads (nodes_in nodes) n r
  reads = node_reads fields nodes ready.bodies n inside r same

  enough : 10 ≤ length classes
  enough = judging.enough fields parameters nodes classes ready

  abbrev scope : Scope
  scope = scope_from fields parameters

  abbrev links : Links
  links = linked_by classes

  abbrev owner : ℕ → ℕ
  owner = owner_at scope (nodes_in nodes)

  abbrev expression : ℕ → Expression
  expression m = expression_in (nodes_in nodes) m

  abbrev statement : ℕ → Statement
  statement m = statement_in (nodes_in nodes) m

  abbrev Judges : List ℕ → List ℕ → Type 0
  Judges after owners' = JudgedStatement (scope_from fields parameters) (nodes_in nodes) n classes after owners owners' q

  -- A statement that gives no links.
  quiet : (s : Statement) → statement n ≡ s → Classed classes → links ≡ links_after scope s links → least_fault (statement_faults scope links s) ≡ q.fault
      → CheckedAs scope classes classes (statement n) q
  quiet s tree classed none h = rw tree (record { fault = h; learnt = nothing_learnt classes _ classed none })

  pub skip_judged : Classed classes → Still r.kind → q ≡ record { fault = 16; added = false } → Judges classes owners
  unfolding statement_faults links_after
  skip_judged classed s is =
      record {
        checked = quiet Statement.skip (trees.still_is reads s) classed refl (rw is least_none);
        column = none_marked (nodes_in nodes) reads.falling owner n r reads.named owners owners s.sequence s.assign_field s.assign_entry s.require
            s.conditional refl;
      }

  module _ (owners' : List ℕ) (d : Declared) (value : Judged) (fault : ℕ) (classed : Classed classes)
      (i : IsField (length fields / 3) (field_on fields r.arg) d) (is : q ≡ record { fault = fault; added = false }) where
    pub field_judged_law : r.kind ≡ 18 → MarkedAs (scope_from fields parameters) (nodes_in nodes) classes r.first owners owners' value → fault ≡ field_fault links d value
        → Judges classes owners'
    unfolding links_after
    field_judged_law e m f =
        record {
          checked = quiet _ (trees.assign_field_is reads e) classed refl
              (rw (is, f) (field_fault_is scope links (length classes) enough (length fields / 3) r.arg d i (expression r.first) value m.judged));
          column = put_marked (nodes_in nodes) reads.falling owner n r reads.named owners owners' m.column e;
        }

    pub entry_judged_law : (mid : List ℕ) (key : Judged) → r.kind ≡ 19 → MarkedAs (scope_from fields parameters) (nodes_in nodes) classes r.first owners mid key
        → MarkedAs (scope_from fields parameters) (nodes_in nodes) classes r.second mid owners' value → fault ≡ entry_put_fault links d key value → Judges classes owners'
    unfolding links_after
    entry_judged_law mid key e k m f =
        record {
          checked = quiet _ (trees.assign_entry_is reads e) classed refl
              (rw (is, f) (entry_put_fault_is scope links (length classes) enough (length fields / 3) r.arg d i (expression r.first) (expression r.second)
              key value k.judged m.judged));
          column = entry_put_marked (nodes_in nodes) reads.falling owner n r reads.named owners mid owners' e k.column m.column;
        }

  pub require_judged : (after owners' : List ℕ) → r.kind ≡ 20 → JudgedCondition (scope_from fields parameters) (nodes_in nodes) r.first classes after owners owners' q
      → Judges after owners'
  unfolding statement_faults links_after
  require_judged after owners' e h =
      record {
        checked = rw (trees.require_is reads e) (record { fault = h.fault; learnt = h.learnt });
        column = required_marked (nodes_in nodes) reads.falling owner n r reads.named owners owners' h.column e;
      }

  pub sequence_judged : (between after mid owners' : List ℕ) (one two : Checked) → r.kind ≡ 17
      → JudgedStatement (scope_from fields parameters) (nodes_in nodes) r.first classes between owners mid one
      → JudgedStatement (scope_from fields parameters) (nodes_in nodes) r.second between after mid owners' two
      → q.fault ≡ min one.fault two.fault → q.added ≡ (one.added || two.added) → Judges after owners'
  unfolding statement_faults links_after
  sequence_judged between after mid owners' one two e h k f a =
      let known = h.checked.learnt in
      record {
        checked = rw (trees.sequence_is reads e) (record {
          fault = least_append (statement_faults scope links (statement r.first)) (statement_faults scope (links_after scope (statement r.first) links) (statement r.second))
              ∙ rw (← known.links, h.checked.fault, k.checked.fault, f);
          learnt = rw a (learnt_both known (learnt_as k.checked.learnt (ap (links_after scope (statement r.second)) known.links)));
        });
        column = sequence_marked (nodes_in nodes) reads.falling owner n r reads.named owners mid owners' e h.column k.column;
      }

  -- The then-branch begins with what the condition states, the else-branch with the links before the if. Those, and the links at the end of the
  -- else-branch, are read in slices of their own.
  module _ (before given other learnt taken passed after mid later owners' : List ℕ) (met one two : Checked) (b : before ≡ classes) (g : given ≡ classes)
      (o : other ≡ passed) (condition : JudgedCondition (scope_from fields parameters) (nodes_in nodes) r.first classes learnt owners mid met)
      (in_then : JudgedStatement (scope_from fields parameters) (nodes_in nodes) r.second learnt taken mid later one)
      (in_else : JudgedStatement (scope_from fields parameters) (nodes_in nodes) r.third given passed later owners' two) where
    abbrev known : Links
    known = links_of_condition scope (expression r.first) links

    else_checked : CheckedAs scope classes passed (statement r.third) two
    else_checked = rw g at in_else.checked

    then_links : linked_by taken ≡ links_after scope (statement r.second) known
    then_links = in_then.checked.learnt.links ∙ ap (links_after scope (statement r.second)) condition.learnt.links

    then_grown : GrownFrom classes taken (met.added || one.added)
    then_grown =
        record {
          kept = λ x y h. ap (λ (l : Links). l x y) then_links
              ∙ (within_chain (condition_grows scope (expression r.first) links) (links_grow scope (statement r.second) known)).each x y h;
          unless_added = (learnt_both condition.learnt in_then.checked.learnt).unless_added;
        }

    else_grown : GrownFrom classes passed two.added
    else_grown =
        record {
          kept = λ x y h. ap (λ (l : Links). l x y) else_checked.learnt.links ∙ (links_grow scope (statement r.third) links).each x y h;
          unless_added = else_checked.learnt.unless_added;
        }

    pub conditional_judged : r.kind ≡ 21 → q.fault ≡ min (min met.fault one.fault) two.fault
        → Behind before taken (met.added || one.added) other two.added after q.added → Judges after owners'
    unfolding statement_faults links_after
    conditional_judged e f behind =
        let here = rw (b, o) at behind in
        let first = condition_faults scope links (expression r.first) in
        let second = statement_faults scope known (statement r.second) in
        record {
          checked = rw (trees.conditional_is reads e) (record {
            fault = least_append (first ++ second) (statement_faults scope links (statement r.third))
                ∙ rw (least_append first second, condition.fault, ← condition.learnt.links, in_then.checked.fault, else_checked.fault, f);
            learnt = learnt_as (here.learnt then_grown else_grown) (ap₂ linked_in_both then_links else_checked.learnt.links);
          });
          column = conditional_marked (nodes_in nodes) reads.falling owner n r reads.named owners mid later owners' e condition.column in_then.column
              in_else.column;
        }
