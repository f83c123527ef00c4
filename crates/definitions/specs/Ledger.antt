-- 01, Runs and views: plain values and cells, the ledger, the walk of a written body on it; deployment;
-- calls with supplied values, and honest ones; numbers 17 to 20.
use Rattle.std.specs.Prelude.{◌&&◌, ◌||◌, ◌∷◌, ◌++◌, ◌+◌}
use Rattle.definitions.specs.Basics.{Bool, true, false, cond, not, List, [], ℕ, eqb, get_or, set, all, is_true}
use Rattle.definitions.specs.Basics.{map, zip_with, suc, leb, ltb, length, replicate, any, count_if, is_zero, first_that_holds}
use Rattle.definitions.specs.ContractFile.{Name, me_name, Field, DataType, boolean, Statement, Parameter, Function, Scope, function_at}
use Rattle.definitions.specs.ContractFile.{scope_of, is_final, is_of_type, type_of, contract_in}
use Rattle.definitions.specs.Original.{position, Reader, anyone, only, reader_of, operate, operates, negate, per_place, address_in}
use Rattle.definitions.specs.Original.{place_readers, deployed_numbers, value, places_after}
use Rattle.definitions.specs.Owners.{owner_of}
use Rattle.definitions.specs.Rewriting.{BodyExpression, Circuit, Command, Claim, equals, opens_for_caller, Guard, always, under}
use Rattle.definitions.specs.Rewriting.{Constraint, Variable, supplied, read_from, guard, variable_owner, in_body, in_branch}
use Rattle.definitions.specs.Rewriting.{rewrite_statement, openings, private_parameters, rewrite_function}
use Rattle.definitions.specs.Numbers.{check_number, or_else}

-- "A supplied cell's serial is the call and 8 + variable; a private argument's is the call and parameter."
pub record Cell : Type 0 where
  pub owner : ℕ
  pub call : ℕ
  pub index : ℕ
  pub value : ℕ

-- What a place, a parameter or a variable holds.
pub data Content : Type 0 where
  plain : ℕ → Content
  cell : Cell → Content

-- "A ledger carries its contract's file." Then the last call, its parameters and variables as the view lists them, and the places.
pub record Ledger : Type 0 where
  pub file : List ℕ
  pub call : ℕ
  pub function : ℕ
  pub caller : ℕ
  pub outcome : ℕ
  pub parameters : List Content
  pub variables : List Content
  pub places : List Content

-- The number that the walk may use: a cell's content is not to be had there.
abbrev pub plain_number : Content → ℕ
plain_number = elim [ plain v ↦ v | cell c ↦ 0 ]

abbrev pub opened_number : Content → ℕ
opened_number = elim [ plain v ↦ v | cell c ↦ c.value ]

-- A value for its readers: plain for all, or a cell of one address with a serial.
abbrev pub content_for : Reader → ℕ → ℕ → ℕ → Content
content_for reader call index v = elim reader [
  | anyone ↦ plain v
  | only x ↦ cell (record { owner = x; call = call; index = index; value = v })
]

pub record State : Type 0 where
  pub places : List Content
  pub variables : List Content

abbrev pub content_at : List Content → ℕ → Content
content_at contents i = get_or contents i (plain 0)

-- "A constraint holds when its guard isn't set, or its variable is the root's value, as a cell of its owner code's address if a cell."
abbrev pub is_content_of : Reader → ℕ → Content → Bool
is_content_of anyone n = elim [ plain v ↦ eqb v n | cell c ↦ false ]
is_content_of (only x) n = elim [ plain v ↦ false | cell c ↦ eqb c.owner x && eqb c.value n ]

abbrev pub opens_for : ℕ → Content → Bool
opens_for x = elim [ plain v ↦ false | cell c ↦ eqb c.owner x ]

abbrev pub is_set : List Content → Guard → Bool
is_set variables = elim [ always ↦ true | under i ↦ is_true (plain_number (content_at variables i)) ]

module _ (address : Name → ℕ) where
  unfoldable pub circuit_value : List Content → Circuit → ℕ
  circuit_value variables (Circuit.constant t v) = v
  circuit_value variables Circuit.me = address me_name
  circuit_value variables (Circuit.operator o left right) =
      operate o (circuit_value variables left) (circuit_value variables right)
  circuit_value variables (Circuit.negation part) = negate (circuit_value variables part)
  circuit_value variables (Circuit.variable i) = plain_number (content_at variables i)
  circuit_value variables (Circuit.opened i) = opened_number (content_at variables i)

  abbrev pub claim_holds : List Content → Claim → Bool
  claim_holds variables (equals i o circuit) =
      is_content_of (reader_of address o) (circuit_value variables circuit) (content_at variables i)
  claim_holds variables (opens_for_caller i) = opens_for (address me_name) (content_at variables i)

  abbrev pub constraint_holds : List Content → Constraint → Bool
  constraint_holds variables c = not (is_set variables c.guard) || claim_holds variables c.claim

  -- "A call walks the function's written body on the ledger's plain values and cells". "Copies keep serials."
  module _ (fields : List Field) (parameters : List Content) where
    unfoldable pub content_of : State → BodyExpression → Content
    content_of s (BodyExpression.constant t v) = plain v
    content_of s BodyExpression.me = plain (address me_name)
    content_of s (BodyExpression.field f) = content_at s.places (position fields f 0)
    content_of s (BodyExpression.entry f key) =
        content_at s.places (position fields f (plain_number (content_of s key)))
    content_of s (BodyExpression.parameter k) = content_at parameters k
    content_of s (BodyExpression.operator o left right) =
        plain (operate o (plain_number (content_of s left)) (plain_number (content_of s right)))
    content_of s (BodyExpression.negation part) = plain (negate (plain_number (content_of s part)))
    content_of s (BodyExpression.variable i) = content_at s.variables i

    unfoldable pub is_walked : State → BodyExpression → Bool
    is_walked s (BodyExpression.constant t v) = true
    is_walked s BodyExpression.me = true
    is_walked s (BodyExpression.field f) = true
    is_walked s (BodyExpression.entry f key) = is_walked s key
    is_walked s (BodyExpression.parameter k) = true
    is_walked s (BodyExpression.operator o left right) =
        is_walked s left
        && is_walked s right
        && operates o (plain_number (content_of s right))
    is_walked s (BodyExpression.negation part) = is_walked s part
    is_walked s (BodyExpression.variable i) = true

    unfoldable pub state_after : State → Command → State
    state_after s Command.skip = s
    state_after s (Command.sequence first second) = state_after (state_after s first) second
    state_after s (Command.assign_field f value) = record {
      places = set s.places (position fields f 0) (content_of s value);
      variables = s.variables;
    }
    state_after s (Command.assign_entry f key value) = record {
      places = set s.places (position fields f (plain_number (content_of s key))) (content_of s value);
      variables = s.variables;
    }
    state_after s (Command.require condition) = s
    state_after s (Command.conditional condition then else) =
        cond (is_true (plain_number (content_of s condition)))
        (state_after s then)
        (state_after s else)
    state_after s (Command.set_variable i value) = record {
      places = s.places;
      variables = set s.variables i (content_of s value);
    }
    state_after s Command.verify = s

    -- "a false require, or a verify with a constraint that doesn't hold, fails it"
    unfoldable pub walk_completes : List Constraint → State → Command → Bool
    walk_completes constraints s Command.skip = true
    walk_completes constraints s (Command.sequence first second) =
        walk_completes constraints s first
        && walk_completes constraints (state_after s first) second
    walk_completes constraints s (Command.assign_field f value) = is_walked s value
    walk_completes constraints s (Command.assign_entry f key value) = is_walked s key && is_walked s value
    walk_completes constraints s (Command.require condition) =
        is_walked s condition && is_true (plain_number (content_of s condition))
    walk_completes constraints s (Command.conditional condition then else) =
        is_walked s condition
        && cond (is_true (plain_number (content_of s condition)))
        (walk_completes constraints s then)
        (walk_completes constraints s else)
    walk_completes constraints s (Command.set_variable i value) = is_walked s value
    walk_completes constraints s Command.verify = all (constraint_holds s.variables) constraints

-- "17. Deployment gives other than one address, 0 to 15, for each final."
abbrev pub finals_off : List Field → List ℕ → Bool
finals_off fields addresses =
    not (eqb (length addresses) (count_if (λ d. is_final d.shape) fields))
    || any (ltb 15) addresses

-- "deployment 1 to 15 and 17"
unfoldable pub deploy_number : List ℕ → List ℕ → ℕ
deploy_number file addresses =
    or_else (check_number file) (first_that_holds 17 (finals_off (contract_in file).fields addresses ∷ []))

-- "At deployment finals are given; all else is 0, private places being cells of serial 0, 0."
unfoldable pub deployed : List ℕ → List ℕ → Ledger
deployed file addresses =
    let fields = (contract_in file).fields in
    let numbers = deployed_numbers fields addresses in
    let places = zip_with (λ reader n. content_for reader 0 0 n) (place_readers fields numbers) numbers in
    record {
      file = file;
      call = 0;
      function = 0;
      caller = 0;
      outcome = 0;
      parameters = [];
      variables = [];
      places = places;
    }

-- What the file asks of an item: its type, and plain or a cell of one address.
pub record Form : Type 0 where
  pub type : DataType
  pub reader : Reader

abbrev pub fits : Form → Content → Bool
fits form content =
    elim form.reader [
      | anyone ↦ elim content [ plain v ↦ true | cell c ↦ false ]
      | only x ↦ opens_for x content
    ]
    && is_of_type form.type (opened_number content)

-- "a variable may be plain 0"
abbrev pub is_plain_zero : Content → Bool
is_plain_zero = elim [ plain v ↦ is_zero v | cell c ↦ false ]

unfoldable pub all_fit : (Form → Content → Bool) → List Form → List Content → Bool
all_fit test [] [] = true
all_fit test [] (c ∷ cs) = false
all_fit test (f ∷ fs) [] = false
all_fit test (f ∷ fs) (c ∷ cs) = test f c && all_fit test fs cs

-- A variable's type is that of the expression that it is supplied for or read from; a guard is a bool.
abbrev pub variable_type : Scope → Variable → DataType
variable_type scope = elim [
  | supplied o e ↦ type_of scope e
  | read_from o e ↦ type_of scope e
  | guard ↦ boolean
]

unfoldable pub public_of : {A : Type 0} → List Parameter → List A → List A
public_of [] items = []
public_of (p ∷ ps) [] = []
public_of (p ∷ ps) (item ∷ items) =
    cond p.private
    (public_of ps items)
    (item ∷ public_of ps items)

abbrev pub parameter_form : ℕ → Parameter → Form
parameter_form caller p = record { type = p.type; reader = cond p.private (only caller) anyone }

-- "18. The ledger isn't well formed (its own file passes 1 to 15, its finals 17; its last call is zero or a possible one;
-- each item of its view has the type, and is plain or a cell of the owner address, that the file asks; a variable may be plain 0)"
module _ (l : Ledger) where
  abbrev pub function_of_ledger : ℕ → Function
  function_of_ledger f = function_at (contract_in l.file).functions f

  -- The address of each name in the last call.
  abbrev pub last_address : Name → ℕ
  last_address =
      address_in (scope_of (contract_in l.file) l.function) l.caller
      (map plain_number l.parameters) (map plain_number l.places)

  -- Before any call; after a done call; after a failed one, which "shows public parameters and no variables".
  abbrev pub is_before_calls : Bool
  is_before_calls =
      is_zero l.call
      && is_zero l.function
      && is_zero l.caller
      && is_zero l.outcome
      && all_fit fits [] l.parameters
      && all_fit fits [] l.variables

  abbrev pub is_after_done : Bool
  is_after_done =
      let g = function_of_ledger l.function in
      let scope = scope_of (contract_in l.file) l.function in
      let form : Variable → Form = λ v. record {
        type = variable_type scope v;
        reader = reader_of last_address (variable_owner v);
      } in
      is_zero l.outcome
      && all_fit fits (map (parameter_form l.caller) g.parameters) l.parameters
      && all_fit (λ form c. is_plain_zero c || fits form c)
      (map form (rewrite_function (contract_in l.file).fields g).variables)
      l.variables

  abbrev pub is_after_failed : Bool
  is_after_failed =
      let parameters = (function_of_ledger l.function).parameters in
      eqb l.outcome 1
      && all_fit fits (public_of parameters (map (parameter_form l.caller) parameters)) l.parameters
      && all_fit fits [] l.variables

  abbrev pub is_after_call : Bool
  is_after_call =
      ltb 0 l.call
      && leb l.call 65535
      && ltb l.function (length (contract_in l.file).functions)
      && leb l.caller 15
      && (is_after_done || is_after_failed)

  unfoldable pub is_well_formed : Bool
  is_well_formed =
      let fields = (contract_in l.file).fields in
      let readers = place_readers fields (map plain_number l.places) in
      let forms : List Form = zip_with (λ t r. record { type = t; reader = r }) (per_place (λ d _. d.type) fields) readers in
      is_zero (check_number l.file)
      && (is_before_calls || is_after_call)
      && all_fit fits forms l.places

-- "or a caller is above 15, or the function doesn't exist"
module _ (l : Ledger) (function caller : ℕ) where
  unfoldable pub not_callable : Bool
  not_callable =
      not (is_well_formed l)
      || ltb 15 caller
      || leb (length (contract_in l.file).functions) function

  -- "19. Arguments differ in number from the parameters, or one is outside its type."
  unfoldable pub arguments_off : List ℕ → Bool
  arguments_off arguments =
      not (eqb (length arguments) (length (function_of_ledger l function).parameters))
      || any not (zip_with (λ p v. is_of_type p.type v) (function_of_ledger l function).parameters arguments)

  -- "20. Call number 65,535 has been used."; "a call 18 to 20"
  unfoldable pub call_number : List ℕ → ℕ
  call_number arguments = first_that_holds 18 (not_callable ∷ arguments_off arguments ∷ leb 65535 l.call ∷ [])

  abbrev pub after_call : ℕ → List Content → State → Ledger
  after_call outcome shown end = record {
    file = l.file;
    call = suc l.call;
    function = function;
    caller = caller;
    outcome = outcome;
    parameters = shown;
    variables = end.variables;
    places = end.places;
  }

  -- A call with given parameters and supplied values: "A call walks the function's written body". "A failed call restores every place."
  unfoldable pub call_with : List Content → List Content → Ledger
  call_with parameters variables =
      let fields = (contract_in l.file).fields in
      let g = rewrite_function fields (function_of_ledger l function) in
      let address = address_in (scope_of (contract_in l.file) function) caller (map plain_number parameters) (map plain_number l.places) in
      let start : State = record { places = l.places; variables = variables } in
      cond (walk_completes address fields parameters g.constraints start g.body)
      (after_call 0 parameters (state_after address fields parameters start g.body))
      (after_call 1 (public_of (function_of_ledger l function).parameters parameters) (record { places = l.places; variables = [] }))

-- "An honest supplied variable holds what the original works out for its expression, as a cell of its owner if a cell;
-- in an untaken branch it stays plain 0."
module _ (scope : Scope) (address : Name → ℕ) (call : ℕ) (arguments : List ℕ) where
  -- "A supplied cell's serial is the call and 8 + variable"
  abbrev pub honest_content : List ℕ → ℕ → Variable → Content
  honest_content places i = elim [
    | supplied o e ↦
        content_for (reader_of address o) call (8 + i) (value scope.fields address arguments places e)
    | read_from o e ↦ plain 0
    | guard ↦ plain 0
  ]

  unfoldable pub honest_contents : List ℕ → ℕ → List Variable → List Content
  honest_contents places i [] = []
  honest_contents places i (v ∷ vs) = honest_content places i v ∷ honest_contents places (suc i) vs

  -- The variables of a statement that is worked out on these places, from number i on.
  unfoldable pub honest_variables : Statement → List ℕ → Guard → ℕ → List Content
  honest_variables Statement.skip places g i = []
  honest_variables (Statement.sequence first second) places g i =
      honest_variables first places g i
      ++ honest_variables second
      (places_after scope.fields address arguments places first)
      g
      (i + length (rewrite_statement scope first g i).variables)
  honest_variables (Statement.assign_field f e) places g i =
      honest_contents places i (rewrite_statement scope (Statement.assign_field f e) g i).variables
  honest_variables (Statement.assign_entry f key e) places g i =
      honest_contents places i (rewrite_statement scope (Statement.assign_entry f key e) g i).variables
  honest_variables (Statement.require condition) places g i =
      honest_contents places i (rewrite_statement scope (Statement.require condition) g i).variables
  honest_variables (Statement.conditional condition then else) places g i =
      let c = in_body (owner_of scope) condition i in
      let j = i + length c.variables in
      let a = in_branch (rewrite_statement scope then) j in
      let k = j + length a.variables in
      let b = in_branch (rewrite_statement scope else) k in
      honest_contents places i c.variables
      ++ cond (is_true (value scope.fields address arguments places condition))
      (plain 0 ∷ honest_variables then places (under j) (suc j) ++ replicate (length b.variables) (plain 0))
      (replicate (length a.variables) (plain 0) ++ (plain 0 ∷ honest_variables else places (under k) (suc k)))

-- "a private argument's is the call and parameter"
unfoldable pub honest_parameters : ℕ → ℕ → ℕ → List Parameter → List ℕ → List Content
honest_parameters caller call k [] arguments = []
honest_parameters caller call k (p ∷ ps) [] = []
honest_parameters caller call k (p ∷ ps) (v ∷ arguments) =
    content_for (cond p.private (only caller) anyone) call k v
    ∷ honest_parameters caller call (suc k) ps arguments

-- The honest call is the call with the honest parameters and supplied values; the original works on the places opened.
module _ (l : Ledger) (function caller : ℕ) (arguments : List ℕ) where
  abbrev pub honest_parameters_of : List Content
  honest_parameters_of =
      honest_parameters caller (suc l.call) 0 (function_of_ledger l function).parameters arguments

  abbrev pub honest_variables_of : List Content
  honest_variables_of =
      let scope = scope_of (contract_in l.file) function in
      let places = map opened_number l.places in
      let address = address_in scope caller arguments places in
      let opening = openings (private_parameters 0 scope.parameters) 0 in
      honest_contents scope address (suc l.call) arguments places 0 opening.variables
      ++ honest_variables scope address (suc l.call) arguments
      (function_of_ledger l function).body places always (length opening.variables)

  -- "lent memory and ledger keep their contents": a refused call hands back the ledger that it was given.
  unfoldable pub ledger_after_call : Ledger
  ledger_after_call =
      cond (is_zero (call_number l function caller arguments))
      (call_with l function caller honest_parameters_of honest_variables_of)
      l
