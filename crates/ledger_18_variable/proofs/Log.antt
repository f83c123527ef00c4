-- The variables of a log are tested entry by entry.
use Rattle.std.specs.Prelude.{◌≡◌, ◌∷◌, ◌+◌, ◌/◌, ◌<◌, ◌≤◌}
use Rattle.kit.specs.Names.{refl, ap, sym, ◌∙◌, Bool, true, false, cond, List, [], ℕ, arith, eqb, leb, length}
use Rattle.kit.specs.Names.{drop, get_or, length-drop, eq-eqb, ne_eqb}
use Rattle.definitions.specs.ContractFile.{DataType, boolean, Expression, node_count, data_type_of, Node, expression_of, type_of}
use Rattle.definitions.specs.Original.{anyone, only}
use Rattle.definitions.specs.Ledger.{Content, Form, all_fit}
use Rattle.file_accepted.proofs.Nodes.{context_falls, node_past}
use Rattle.theory_laws.proofs.Lists.{five_next}
use Rattle.theory_trees.specs.Trees.{expression_in}
use Rattle.theory_trees.proofs.Unfolding.{expression_unfolds}
use Rattle.file_accepted.specs.Context.{Context, nodes_in, scope_in}
use Rattle.rewrite_log.specs.Entries.{makes_none}
use Rattle.ledger_contents.specs.Contents.{contents_of}
use Rattle.ledger_contents.proofs.FlatContents.{length_contents_of}
use Rattle.ledger_readers.specs.declared.Reader.{Reader}
use Rattle.ledger_readers.specs.Readers.{reader_of_code, form_of}
use Rattle.ledger_18_forms.specs.Forms.{fits_or_zero, fits_at}
use Rattle.ledger_18_forms.proofs.FormSteps.{all_none, all_next, all_stops}
use Rattle.ledger_18_variable.specs.Variables.{code_reader, entry_form, logged_forms}

pub read_by_all : (addresses : List ℕ) (code : ℕ) → code ≡ 0 → anyone ≡ code_reader addresses code
read_by_all addresses code e = rw (eq-eqb code 0 e)

pub read_by_one : (addresses : List ℕ) (code a : ℕ) → (code ≡ 0 → ⊥) → a ≡ get_or addresses code 0 → only a ≡ code_reader addresses code
read_by_one addresses code a n e = rw (ne_eqb code 0 n, e)

module _ (file : List ℕ) (at : ℕ) (source : List ℕ) (tag n : ℕ) (context : Context file at source) where
  abbrev type_due : DataType
  type_due = cond (eqb tag 3) boolean (type_of (scope_in file at) (expression_in (nodes_in file) n))

  pub guard_typed : tag ≡ 3 → data_type_of 0 ≡ type_due
  guard_typed e = rw (eq-eqb tag 3 e)

  pub node_typed : (r : ℕ) → (tag ≡ 3 → ⊥) → data_type_of r ≡ type_of (scope_in file at) (expression_in (nodes_in file) n) → data_type_of r ≡ type_due
  node_typed r t e = rw (ne_eqb tag 3 t) e

  past_is_me : node_count file ≤ n → expression_in (nodes_in file) n ≡ Expression.me
  unfolding expression_of
  past_is_me h = expression_unfolds (nodes_in file) (context_falls file at source context) n ∙ ap (λ (node : Node). expression_of node (expression_in (nodes_in file))) (node_past file n h)

  pub past_typed : (tag ≡ 3 → ⊥) → node_count file ≤ n → data_type_of 2 ≡ type_due
  unfolding type_of
  past_typed t h = rw (ne_eqb tag 3 t, past_is_me h)

module _ (file : List ℕ) (at : ℕ) (addresses log : List ℕ) (i : ℕ) where
  abbrev forms_left : List Form
  forms_left = logged_forms file at addresses (drop i log)

  abbrev forms_next : List Form
  forms_next = logged_forms file at addresses (drop (i + 5) log)

  module _ (inside : i + 4 < length log) (contents : List Content) (p : ℕ) (goal : Bool) (inv : all_fit fits_or_zero forms_left (drop p contents) ≡ goal) where
    abbrev form : Form
    form = entry_form file at addresses (get_or log i 0) (get_or log (i + 2) 0) (get_or log (i + 3) 0)

    step : (b : Bool) → makes_none (get_or log i 0) ≡ b → forms_left ≡ cond b forms_next (form ∷ forms_next)
    unfolding logged_forms
    step b t = ap (logged_forms file at addresses) (five_next log i inside) ∙ ap (λ (x : Bool). cond x forms_next (form ∷ forms_next)) t

    pub none_next : makes_none (get_or log i 0) ≡ true → all_fit fits_or_zero forms_next (drop p contents) ≡ goal
    none_next t = ap (λ (l : List Form). all_fit fits_or_zero l (drop p contents)) (sym (step true t)) ∙ inv

    module _ (a : Bool) (code : ℕ) (reader : Reader)
        (typed : data_type_of code ≡ cond (eqb (get_or log i 0) 3) boolean (type_of (scope_in file at) (expression_in (nodes_in file) (get_or log (i + 3) 0))))
        (read : reader_of_code reader ≡ code_reader addresses (get_or log (i + 2) 0)) (tested : a ≡ fits_at fits_or_zero contents p (form_of code reader))
        (variable : makes_none (get_or log i 0) ≡ false) where
      form_is : form_of code reader ≡ form
      form_is = λ j. record { type = typed j; reader = read j }

      opened : all_fit fits_or_zero (form ∷ forms_next) (drop p contents) ≡ goal
      opened = ap (λ (l : List Form). all_fit fits_or_zero l (drop p contents)) (sym (step false variable)) ∙ inv

      pub entry_next : a ≡ true → all_fit fits_or_zero forms_next (drop (p + 1) contents) ≡ goal
      entry_next t = all_next fits_or_zero contents p form forms_next a goal (tested ∙ ap (fits_at fits_or_zero contents p) form_is) t opened

      pub entry_stops : a ≡ false → false ≡ goal
      entry_stops t = all_stops fits_or_zero contents p form forms_next a goal (tested ∙ ap (fits_at fits_or_zero contents p) form_is) t opened

  short_none : (numbers : List ℕ) → length numbers ≤ 4 → logged_forms file at addresses numbers ≡ []
  unfolding logged_forms
  short_none [] h = refl
  short_none (a ∷ []) h = refl
  short_none (a ∷ b ∷ []) h = refl
  short_none (a ∷ b ∷ c ∷ []) h = refl
  short_none (a ∷ b ∷ c ∷ d ∷ []) h = refl
  short_none (a ∷ b ∷ c ∷ d ∷ e ∷ numbers) h = absurd (omega arith)

  pub log_done : (flat : List ℕ) (p : ℕ) (goal : Bool) → length log ≤ i + 4 → all_fit fits_or_zero forms_left (drop p (contents_of flat)) ≡ goal → leb (length flat / 5) p ≡ goal
  log_done flat p goal out inv =
      let none = short_none (drop i log) (let l = length-drop i log in omega arith) in
      ap (λ (n : ℕ). leb n p) (sym (length_contents_of flat)) ∙ sym (all_none fits_or_zero (contents_of flat) p)
      ∙ ap (λ (l : List Form). all_fit fits_or_zero l (drop p (contents_of flat))) (sym none) ∙ inv
