-- Each statement by its kind: what it asks of its parts, and what it leaves after them.
use Rattle.std.specs.Prelude.{◌≡◌, ◌&&◌, ◌∷◌, ◌++◌, ◌+◌}
use Rattle.kit.specs.Names.{refl, ap, ap₂, sym, ◌∙◌, Bool, true, false, cond, not, List, [], map, none, ℕ, suc}
use Rattle.kit.specs.Names.{length, set}
use Rattle.definitions.specs.Basics.{is_true}
use Rattle.definitions.specs.ContractFile.{Name, Expression, Statement, field_at, NodeRecord}
use Rattle.definitions.specs.Owners.{name_of, place_owner}
use Rattle.definitions.specs.Original.{position, value, places_after}
use Rattle.definitions.specs.Rewriting.{Variable, supplied, read_from, guard, always}
use Rattle.memory_buffer.specs.Buffer.{stored}
use Rattle.file_accepted.specs.Context.{fields_in, scope_in}
use Rattle.rewrite_events.specs.Events.{Events, variables_of, in_turn, place_events, body_events}
use Rattle.rewrite_events.specs.Ends.{simple_events}
use Rattle.honest_values.specs.Values.{value_of, numbers_after}
use Rattle.honest_supplies.specs.Supplies.{supplied_number, Room, Wrote}
use Rattle.honest_statements.specs.Honest.{Numbering, in_order, branch_numbers, after_if, numbers_for, is_taken, honest_numbers, branches_numbers, SimpleKind, Space, Put, Honest, BranchHonest, BranchesHonest}
use Rattle.honest_statements.proofs.Putting.{put_same, space_same, put_nothing, put_order, put_branch, space_first, space_second, events_put, events_room}

-- A node as it is read has the kind that its record in the file has.
pub simple_as : (r s : NodeRecord) → r ≡ s → SimpleKind s.kind → SimpleKind r.kind
simple_as r s e h = rw e h

module _ (file : List ℕ) (function_start : ℕ) (arguments : List ℕ) (caller : ℕ) where
  -- In a branch that is not taken the numbers of places do not matter.
  order_same : (a b c d : Numbering) → ((i : ℕ) → a i ≡ c i) → ((i : ℕ) → b i ≡ d i) → (i : ℕ) → in_order a b i ≡ in_order c d i
  unfolding in_order
  order_same a b c d h k i = ap₂ ◌++◌ (h i) (k _ ∙ ap (λ (l : List ℕ). d (i + length l)) (h i))

  branch_same : (a b : Numbering) → ((i : ℕ) → a i ≡ b i) → (i : ℕ) → branch_numbers a i ≡ branch_numbers b i
  unfolding branch_numbers
  branch_same a b h i = ap (λ (l : List ℕ). 0 ∷ l) (h (suc i))

  number_dead : (p q : List ℕ) (v : Variable) → supplied_number file arguments caller false p v ≡ supplied_number file arguments caller false q v
  unfolding supplied_number
  number_dead p q (supplied o e) = refl
  number_dead p q (read_from o e) = refl
  number_dead p q guard = refl

  numbers_dead : (p q : List ℕ) (l : List Variable) → map (supplied_number file arguments caller false p) l ≡ map (supplied_number file arguments caller false q) l
  numbers_dead p q [] = refl
  numbers_dead p q (v ∷ l) = ap₂ ◌∷◌ (number_dead p q v) (numbers_dead p q l)

  events_dead : (events : Events) (p q : List ℕ) (i : ℕ)
      → numbers_for file function_start arguments caller events false p i ≡ numbers_for file function_start arguments caller events false q i
  unfolding numbers_for
  events_dead events p q i = numbers_dead p q (variables_of (events i))

  pub dead_same : (s : Statement) (p q : List ℕ) (i : ℕ)
      → honest_numbers file function_start arguments caller s false p i ≡ honest_numbers file function_start arguments caller s false q i
  unfolding honest_numbers
  dead_same Statement.skip p q i = refl
  dead_same (Statement.sequence first second) p q i = order_same _ _ _ _ (dead_same first p q) (dead_same second p q) i
  dead_same (Statement.assign_field f e) p q i = events_dead _ p q i
  dead_same (Statement.assign_entry f key e) p q i = events_dead _ p q i
  dead_same (Statement.require condition) p q i = events_dead _ p q i
  dead_same (Statement.conditional condition then else) p q i =
      order_same _ _ _ _ (events_dead _ p q)
      (order_same _ _ _ _ (branch_same _ _ (dead_same then p q)) (branch_same _ _ (dead_same else p q))) i

  -- The else branch is worked out on what the then branch left: the same numbers, or it is not taken.
  pub else_same : (s then : Statement) (live taken : Bool) (numbers : List ℕ) (i : ℕ)
      → honest_numbers file function_start arguments caller s (live && not taken) (after_if file function_start arguments caller (live && taken) numbers then) i
      ≡ honest_numbers file function_start arguments caller s (live && not taken) numbers i
  else_same s then true true numbers i = dead_same s _ _ i
  else_same s then true false numbers i = refl
  else_same s then false taken numbers i = refl

  module _ (live : Bool) (numbers : List ℕ) where
    skip_after : numbers ≡ after_if file function_start arguments caller live numbers Statement.skip
    unfolding numbers_after places_after
    skip_after = go live
      where
        go : (b : Bool) → numbers ≡ cond b numbers numbers
        go true = refl
        go false = refl

    require_after : (e : Expression) → numbers ≡ after_if file function_start arguments caller live numbers (Statement.require e)
    unfolding numbers_after places_after
    require_after e = go live
      where
        go : (b : Bool) → numbers ≡ cond b numbers numbers
        go true = refl
        go false = refl

    field_after : (f : ℕ) (e : Expression)
        → cond live (set numbers (position (fields_in file) f 0) (value_of file arguments caller numbers e)) numbers
        ≡ after_if file function_start arguments caller live numbers (Statement.assign_field f e)
    unfolding numbers_after places_after value_of
    field_after f e = refl

    entry_after : (f : ℕ) (key e : Expression)
        → cond live (set numbers (position (fields_in file) f (value_of file arguments caller numbers key)) (value_of file arguments caller numbers e)) numbers
        ≡ after_if file function_start arguments caller live numbers (Statement.assign_entry f key e)
    unfolding numbers_after places_after value_of
    entry_after f key e = refl

  sequence_after : (live : Bool) (numbers : List ℕ) (a b : Statement)
      → after_if file function_start arguments caller live (after_if file function_start arguments caller live numbers a) b
      ≡ after_if file function_start arguments caller live numbers (Statement.sequence a b)
  unfolding numbers_after places_after
  sequence_after true numbers a b = refl
  sequence_after false numbers a b = refl

  conditional_after : (live : Bool) (numbers : List ℕ) (c : Expression) (a b : Statement)
      → after_if file function_start arguments caller (live && not (is_taken file function_start arguments caller numbers c))
      (after_if file function_start arguments caller (live && is_taken file function_start arguments caller numbers c) numbers a) b
      ≡ after_if file function_start arguments caller live numbers (Statement.conditional c a b)
  unfolding numbers_after places_after value_of
  conditional_after false numbers c a b = refl
  conditional_after true numbers c a b = go (is_true (value (fields_in file) (λ (n : Name). caller) arguments numbers c))
    where
      go : (taken : Bool)
          → cond (not taken)
          (places_after (fields_in file) (λ (n : Name). caller) arguments (cond taken (places_after (fields_in file) (λ (n : Name). caller) arguments numbers a) numbers) b)
          (cond taken (places_after (fields_in file) (λ (n : Name). caller) arguments numbers a) numbers)
          ≡ cond taken (places_after (fields_in file) (λ (n : Name). caller) arguments numbers a) (places_after (fields_in file) (λ (n : Name). caller) arguments numbers b)
      go true = refl
      go false = refl

  -- The numbers of a statement, by its kind.
  module _ (s : Statement) (live : Bool) (numbers : List ℕ) where
    pub skip_honest : (out : List ℕ) (i : ℕ) → s ≡ Statement.skip → Honest file function_start arguments caller live s numbers numbers out out i i
    unfolding honest_numbers
    skip_honest out i e = rw e (record { places = skip_after live numbers; slots = put_nothing out i _ refl })

    pub require_honest : (c : Expression) (out after : List ℕ) (i j : ℕ) → s ≡ Statement.require c
        → Wrote (supplied_number file arguments caller live numbers) out after i j (body_events (scope_in file function_start) always c)
        → Honest file function_start arguments caller live s numbers numbers out after i j
    unfolding honest_numbers simple_events
    require_honest c out after i j e w = rw e (record { places = require_after live numbers c; slots = events_put file function_start arguments caller _ live numbers out after i j w })

    pub require_room : (c : Expression) (out : List ℕ) (i : ℕ) → s ≡ Statement.require c
        → Space out i (honest_numbers file function_start arguments caller s live numbers) → Room out i (body_events (scope_in file function_start) always c)
    unfolding honest_numbers simple_events
    require_room c out i e space = events_room file function_start arguments caller (body_events (scope_in file function_start) always c) live numbers out i (rw e at space)

    pub field_honest : (f : ℕ) (e : Expression) (numbers' out after : List ℕ) (i j : ℕ) → s ≡ Statement.assign_field f e
        → numbers' ≡ cond live (set numbers (position (fields_in file) f 0) (value_of file arguments caller numbers e)) numbers
        → Wrote (supplied_number file arguments caller live numbers) out after i j (place_events (scope_in file function_start) always (place_owner (field_at (fields_in file) f).owner none) e)
        → Honest file function_start arguments caller live s numbers numbers' out after i j
    unfolding honest_numbers simple_events
    field_honest f e numbers' out after i j h p w =
        rw h (record { places = p ∙ field_after live numbers f e; slots = events_put file function_start arguments caller _ live numbers out after i j w })

    pub entry_honest : (f : ℕ) (key e : Expression) (numbers' out after : List ℕ) (i j : ℕ) → s ≡ Statement.assign_entry f key e
        → numbers' ≡ cond live (set numbers (position (fields_in file) f (value_of file arguments caller numbers key)) (value_of file arguments caller numbers e)) numbers
        → Wrote (supplied_number file arguments caller live numbers) out after i j (in_turn (body_events (scope_in file function_start) always key) (place_events (scope_in file function_start) always (place_owner (field_at (fields_in file) f).owner (name_of (scope_in file function_start) key)) e))
        → Honest file function_start arguments caller live s numbers numbers' out after i j
    unfolding honest_numbers simple_events
    entry_honest f key e numbers' out after i j h p w =
        rw h (record { places = p ∙ entry_after live numbers f key e; slots = events_put file function_start arguments caller _ live numbers out after i j w })

    pub field_room : (f : ℕ) (e : Expression) (out : List ℕ) (i : ℕ) → s ≡ Statement.assign_field f e
        → Space out i (honest_numbers file function_start arguments caller s live numbers) → Room out i (place_events (scope_in file function_start) always (place_owner (field_at (fields_in file) f).owner none) e)
    unfolding honest_numbers simple_events
    field_room f e out i h space =
        events_room file function_start arguments caller (simple_events (scope_in file function_start) (Statement.assign_field f e) always) live numbers out i (rw h at space)

    pub entry_room : (f : ℕ) (key e : Expression) (out : List ℕ) (i : ℕ) → s ≡ Statement.assign_entry f key e
        → Space out i (honest_numbers file function_start arguments caller s live numbers)
        → Room out i (in_turn (body_events (scope_in file function_start) always key) (place_events (scope_in file function_start) always (place_owner (field_at (fields_in file) f).owner (name_of (scope_in file function_start) key)) e))
    unfolding honest_numbers simple_events
    entry_room f key e out i h space =
        events_room file function_start arguments caller (simple_events (scope_in file function_start) (Statement.assign_entry f key e) always) live numbers out i (rw h at space)

    -- Two statements in sequence.
    module _ (a b : Statement) (h : s ≡ Statement.sequence a b) (out : List ℕ) (i : ℕ) (space : Space out i (honest_numbers file function_start arguments caller s live numbers)) where
      sequence_space : Space out i (in_order (honest_numbers file function_start arguments caller a live numbers)
          (honest_numbers file function_start arguments caller b live (after_if file function_start arguments caller live numbers a)))
      unfolding honest_numbers
      sequence_space = rw h at space

      pub one_space : Space out i (honest_numbers file function_start arguments caller a live numbers)
      one_space = space_first out i _ _ sequence_space

      module _ (numbers' after : List ℕ) (j : ℕ) (one : Honest file function_start arguments caller live a numbers numbers' out after i j) where
        pub two_space : Space after j (honest_numbers file function_start arguments caller b live numbers')
        two_space = rw one.places (space_second out after i j _ _ sequence_space one.slots)

        pub sequence_honest : (numbers'' last : List ℕ) (k : ℕ) → Honest file function_start arguments caller live b numbers' numbers'' after last j k
            → Honest file function_start arguments caller live s numbers numbers'' out last i k
        unfolding honest_numbers
        sequence_honest numbers'' last k two =
            rw h
            (record {
              places = two.places ∙ ap (λ (l : List ℕ). after_if file function_start arguments caller live l b) one.places ∙ sequence_after live numbers a b;
              slots =
                  put_order out after last i j k _ _ sequence_space one.slots
                  (put_same after last j k _ _ (ap (λ (l : List ℕ). honest_numbers file function_start arguments caller b live l j) one.places) two.slots);
            })

    -- A condition, and then both branches, of which at most one is taken.
    module _ (c : Expression) (a b : Statement) (h : s ≡ Statement.conditional c a b) where
      abbrev T : Bool
      T = is_taken file function_start arguments caller numbers c

      module _ (out : List ℕ) (i : ℕ) (space : Space out i (honest_numbers file function_start arguments caller s live numbers)) where
        conditional_space : Space out i (in_order (numbers_for file function_start arguments caller (body_events (scope_in file function_start) always c) live numbers)
            (branches_numbers file function_start arguments caller (Statement.conditional c a b) live numbers))
        unfolding honest_numbers branches_numbers
        conditional_space = rw h at space

        pub condition_room : Room out i (body_events (scope_in file function_start) always c)
        condition_room = events_room file function_start arguments caller (body_events (scope_in file function_start) always c) live numbers out i (space_first out i _ _ conditional_space)

        module _ (mid : List ℕ) (j : ℕ) (w : Wrote (supplied_number file arguments caller live numbers) out mid i j (body_events (scope_in file function_start) always c)) where
          condition_put : Put out mid i j (numbers_for file function_start arguments caller (body_events (scope_in file function_start) always c) live numbers)
          condition_put = events_put file function_start arguments caller (body_events (scope_in file function_start) always c) live numbers out mid i j w

          pub branches_space : Space mid j (branches_numbers file function_start arguments caller s live numbers)
          branches_space = rw h (space_second out mid i j _ _ conditional_space condition_put)

          pub conditional_honest : (numbers' last : List ℕ) (r : ℕ) → BranchesHonest file function_start arguments caller live s numbers numbers' mid last j r
              → Honest file function_start arguments caller live s numbers numbers' out last i r
          unfolding honest_numbers branches_numbers
          conditional_honest numbers' last r two =
              let both = rw h at two in
              rw h (record { places = both.places; slots = put_order out mid last i j r _ _ conditional_space condition_put both.slots })

      module _ (mid : List ℕ) (j : ℕ) (space : Space mid j (branches_numbers file function_start arguments caller s live numbers))
          (taken first : Bool) (t : taken ≡ T) (y : first ≡ (live && taken)) where
        both_space : Space mid j (in_order (branch_numbers (honest_numbers file function_start arguments caller a (live && T) numbers))
            (branch_numbers (honest_numbers file function_start arguments caller b (live && not T) numbers)))
        unfolding branches_numbers
        both_space = rw h at space

        first_is : first ≡ (live && T)
        first_is = y ∙ ap (λ (q : Bool). live && q) t

        then_numbers : (m : ℕ) → honest_numbers file function_start arguments caller a (live && T) numbers m ≡ honest_numbers file function_start arguments caller a first numbers m
        then_numbers m = ap (λ (q : Bool). honest_numbers file function_start arguments caller a q numbers m) (sym first_is)

        pub then_space : Space mid j (branch_numbers (honest_numbers file function_start arguments caller a first numbers))
        then_space = space_same mid j _ _ (branch_same _ _ then_numbers j) (space_first mid j _ _ both_space)

        module _ (numbers' after : List ℕ) (k : ℕ) (one : BranchHonest file function_start arguments caller first a numbers numbers' mid after j k)
            (second : Bool) (z : second ≡ (live && not taken)) where
          then_put : Put mid after j k (branch_numbers (honest_numbers file function_start arguments caller a (live && T) numbers))
          then_put = put_same mid after j k _ _ (sym (branch_same _ _ then_numbers j)) one.slots

          second_is : second ≡ (live && not T)
          second_is = z ∙ ap (λ (q : Bool). live && not q) t

          else_numbers : (m : ℕ) → honest_numbers file function_start arguments caller b (live && not T) numbers m ≡ honest_numbers file function_start arguments caller b second numbers' m
          else_numbers m =
              sym (else_same b a live T numbers m)
              ∙ ap (λ (q : Bool). honest_numbers file function_start arguments caller b (live && not T) (after_if file function_start arguments caller q numbers a) m) (sym first_is)
              ∙ ap (λ (l : List ℕ). honest_numbers file function_start arguments caller b (live && not T) l m) (sym one.places)
              ∙ ap (λ (q : Bool). honest_numbers file function_start arguments caller b q numbers' m) (sym second_is)

          pub else_space : Space after k (branch_numbers (honest_numbers file function_start arguments caller b second numbers'))
          else_space = space_same after k _ _ (branch_same _ _ else_numbers k) (space_second mid after j k _ _ both_space then_put)

          pub branches_honest : (numbers'' last : List ℕ) (r : ℕ) → BranchHonest file function_start arguments caller second b numbers' numbers'' after last k r
              → BranchesHonest file function_start arguments caller live s numbers numbers'' mid last j r
          unfolding branches_numbers
          branches_honest numbers'' last r two =
              rw h
              (record {
                places =
                    two.places ∙ ap (λ (q : Bool). after_if file function_start arguments caller q numbers' b) second_is
                    ∙ ap (λ (l : List ℕ). after_if file function_start arguments caller (live && not T) l b)
                    (one.places ∙ ap (λ (q : Bool). after_if file function_start arguments caller q numbers a) first_is)
                    ∙ conditional_after live numbers c a b;
                slots = put_order mid after last j k r _ _ both_space then_put (put_same after last k r _ _ (sym (branch_same _ _ else_numbers k)) two.slots);
              })

  -- A branch is its guard and a statement.
  pub branch_honest : (live : Bool) (s : Statement) (numbers numbers' out mid after : List ℕ) (i j : ℕ)
      → Space out i (branch_numbers (honest_numbers file function_start arguments caller s live numbers)) → mid ≡ stored out i (0 ∷ [])
      → Honest file function_start arguments caller live s numbers numbers' mid after (i + 1) j
      → BranchHonest file function_start arguments caller live s numbers numbers' out after i j
  branch_honest live s numbers numbers' out mid after i j space h one =
      record { places = one.places; slots = put_branch out mid after i j _ space h one.slots }
