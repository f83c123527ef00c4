-- 01, Runs and views: the places of a contract, the addresses of names, and "The original is the contract as filed,
-- with a plain value in every place".
use Rattle.std.specs.Prelude.{◌∷◌, ◌++◌, ◌+◌, ◌&&◌, ◌||◌, ◌*◌, ◌-◌, ◌/◌, ◌%◌}
use Rattle.definitions.specs.Basics.{Bool, true, cond, List, [], map, ℕ, zero, suc, eqb, get_or, drop, replicate}
use Rattle.definitions.specs.Basics.{not, leb, ltb, set, bit, is_zero, is_true}
use Rattle.definitions.specs.ContractFile.{Name, me_name, final_name, parameter_name, Owner, everyone, owned_by, FieldOwner, to_everyone}
use Rattle.definitions.specs.ContractFile.{to_key, to_final, Field, Scope, field_at, parameter_at, is_final, is_mapping, Operator, plus}
use Rattle.definitions.specs.ContractFile.{minus, times, divide, remainder, less, less_or_equal, equal, unequal, conjunction}
use Rattle.definitions.specs.ContractFile.{disjunction, Expression, constant, me, field, entry, parameter, operator, negation, reveal}
use Rattle.definitions.specs.ContractFile.{Statement, skip, sequence, assign_field, assign_entry, require, conditional, Contract}
use Rattle.definitions.specs.ContractFile.{is_division, function_at, scope_of}

-- The numbers from n on, as many as told.
unfoldable pub numbers_from : ℕ → ℕ → List ℕ
numbers_from n zero = []
numbers_from n (suc count) = n ∷ numbers_from (suc n) count

-- "places in field order (a mapping is 16)"
abbrev pub place_count : Field → ℕ
place_count d = cond (is_mapping d.shape) 16 1

-- What is asked of each place, by its field and its key (0 where there is none), in field order.
unfoldable pub per_place : {A : Type 0} → (Field → ℕ → A) → List Field → List A
per_place ask [] = []
per_place ask (d ∷ ds) = map (ask d) (numbers_from 0 (place_count d)) ++ per_place ask ds

-- Where field f's place at a key stands among all places.
unfoldable pub position : List Field → ℕ → ℕ → ℕ
position [] f key = key
position (d ∷ ds) zero key = key
position (d ∷ ds) (suc f) key = place_count d + position ds f key

-- The address that a final holds, on places that hold these numbers.
abbrev pub final_address : List Field → List ℕ → ℕ → ℕ
final_address fields places f = get_or places (position fields f 0) 0

-- The address that each name stands for, in a call with arguments. A field that is not final and a private parameter are no names.
abbrev pub address_in : Scope → ℕ → List ℕ → List ℕ → Name → ℕ
address_in scope caller arguments places me_name = caller
address_in scope caller arguments places (final_name f) =
    cond (is_final (field_at scope.fields f).shape)
    (final_address scope.fields places f)
    0
address_in scope caller arguments places (parameter_name k) =
    cond (parameter_at scope.parameters k).private
    0
    (get_or arguments k 0)

-- Who can read a value: anyone, or the party at one address.
pub data Reader : Type 0 where
  anyone : Reader
  only : ℕ → Reader

abbrev pub may_read : ℕ → Reader → Bool
may_read party = elim [ anyone ↦ true | only x ↦ eqb x party ]

abbrev pub reader_of : (Name → ℕ) → Owner → Reader
reader_of address = elim [ everyone ↦ anyone | owned_by n ↦ only (address n) ]

-- The reader of a place, by its declared owner and its key: "0 all, .. 2 the mapping's key, 16+f final field f".
abbrev pub place_reader : (ℕ → ℕ) → FieldOwner → ℕ → Reader
place_reader final owner key = elim owner [
  | to_everyone ↦ anyone
  | to_key ↦ only key
  | to_final f ↦ only (final f)
]

abbrev pub place_readers : List Field → List ℕ → List Reader
place_readers fields places =
    per_place (λ d key. place_reader (final_address fields places) d.owner key) fields

-- "At deployment finals are given; all else is 0". The addresses are those of the finals, in field order.
unfoldable pub deployed_numbers : List Field → List ℕ → List ℕ
deployed_numbers [] addresses = []
deployed_numbers (d ∷ ds) addresses =
    cond (is_final d.shape)
    (get_or addresses 0 0 ∷ deployed_numbers ds (drop 1 addresses))
    (replicate (place_count d) 0 ++ deployed_numbers ds addresses)

-- "Uint arithmetic is modulo 4,294,967,296."
abbrev pub modulus : ℕ
modulus = 4294967296

abbrev pub operate : Operator → ℕ → ℕ → ℕ
operate plus a b = (a + b) % modulus
operate minus a b = (a + modulus - b) % modulus
operate times a b = a * b % modulus
operate divide a b = a / b
operate remainder a b = a % b
operate less a b = bit (ltb a b)
operate less_or_equal a b = bit (leb a b)
operate equal a b = bit (eqb a b)
operate unequal a b = bit (not (eqb a b))
operate conjunction a b = bit (is_true a && is_true b)
operate disjunction a b = bit (is_true a || is_true b)

abbrev pub negate : ℕ → ℕ
negate a = bit (is_zero a)

-- "A zero divisor fails the call."
abbrev pub operates : Operator → ℕ → Bool
operates o divisor = not (is_division o && is_zero divisor)

-- A function's fields and the addresses of the names; then the arguments. What is said of places holds for the places given.
module _ (fields : List Field) (address : Name → ℕ) (arguments : List ℕ) where
  unfoldable pub value : List ℕ → Expression → ℕ
  value places (constant t v) = v
  value places me = address me_name
  value places (field f) = get_or places (position fields f 0) 0
  value places (entry f key) = get_or places (position fields f (value places key)) 0
  value places (parameter k) = get_or arguments k 0
  value places (operator o left right) = operate o (value places left) (value places right)
  value places (negation part) = negate (value places part)
  value places (reveal part o) = value places part

  -- Whether an expression is worked out to its end. "Both operands are always worked out, left first."
  unfoldable pub is_worked_out : List ℕ → Expression → Bool
  is_worked_out places (constant t v) = true
  is_worked_out places me = true
  is_worked_out places (field f) = true
  is_worked_out places (entry f key) = is_worked_out places key
  is_worked_out places (parameter k) = true
  is_worked_out places (operator o left right) =
      is_worked_out places left
      && is_worked_out places right
      && operates o (value places right)
  is_worked_out places (negation part) = is_worked_out places part
  is_worked_out places (reveal part o) = is_worked_out places part

  -- "In a call it works out parts first, second, third, of an if the condition and the taken branch; a false require fails the call."
  unfoldable pub places_after : List ℕ → Statement → List ℕ
  places_after places skip = places
  places_after places (sequence first second) = places_after (places_after places first) second
  places_after places (assign_field f e) = set places (position fields f 0) (value places e)
  places_after places (assign_entry f key e) = set places (position fields f (value places key)) (value places e)
  places_after places (require condition) = places
  places_after places (conditional condition then else) =
      cond (is_true (value places condition))
      (places_after places then)
      (places_after places else)

  unfoldable pub completes : List ℕ → Statement → Bool
  completes places skip = true
  completes places (sequence first second) =
      completes places first
      && completes (places_after places first) second
  completes places (assign_field f e) = is_worked_out places e
  completes places (assign_entry f key e) = is_worked_out places key && is_worked_out places e
  completes places (require condition) = is_worked_out places condition && is_true (value places condition)
  completes places (conditional condition then else) =
      is_worked_out places condition
      && cond (is_true (value places condition))
      (completes places then)
      (completes places else)

  -- "Each reveal to all or to the party's address, once worked out, adds its value to what the call discloses to the party,
  -- up to a failure."
  module _ (party : ℕ) where
    unfoldable pub disclosed : List ℕ → Expression → List ℕ
    disclosed places (constant t v) = []
    disclosed places me = []
    disclosed places (field f) = []
    disclosed places (entry f key) = disclosed places key
    disclosed places (parameter k) = []
    disclosed places (operator o left right) =
        disclosed places left
        ++ cond (is_worked_out places left) (disclosed places right) []
    disclosed places (negation part) = disclosed places part
    disclosed places (reveal part o) =
        disclosed places part
        ++ cond (is_worked_out places part && may_read party (reader_of address o)) (value places part ∷ []) []

    unfoldable pub disclosed_by : List ℕ → Statement → List ℕ
    disclosed_by places skip = []
    disclosed_by places (sequence first second) =
        disclosed_by places first
        ++ cond (completes places first) (disclosed_by (places_after places first) second) []
    disclosed_by places (assign_field f e) = disclosed places e
    disclosed_by places (assign_entry f key e) =
        disclosed places key
        ++ cond (is_worked_out places key) (disclosed places e) []
    disclosed_by places (require condition) = disclosed places condition
    disclosed_by places (conditional condition then else) =
        disclosed places condition
        ++ cond (is_worked_out places condition)
        (cond (is_true (value places condition)) (disclosed_by places then) (disclosed_by places else))
        []

-- A call of the original: whether it completes, the places after it ("after failed ones its places are restored"),
-- what it discloses to a party.
module _ (contract : Contract) (places : List ℕ) (function caller : ℕ) (arguments : List ℕ) where
  abbrev pub call_address : Name → ℕ
  call_address = address_in (scope_of contract function) caller arguments places

  unfoldable pub original_completes : Bool
  original_completes =
      completes contract.fields call_address arguments places (function_at contract.functions function).body

  unfoldable pub original_after : List ℕ
  original_after =
      cond original_completes
      (places_after contract.fields call_address arguments places (function_at contract.functions function).body)
      places

  unfoldable pub original_discloses : ℕ → List ℕ
  original_discloses party =
      disclosed_by contract.fields call_address arguments party places (function_at contract.functions function).body
