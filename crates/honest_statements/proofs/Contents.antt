-- The numbers, with their variables' owners and serials, are the honest variables of the definitions.
use Rattle.std.specs.Prelude.{◌≡◌, ◌&&◌, ◌∷◌, ◌++◌, ◌+◌}
use Rattle.kit.specs.Names.{refl, ap, ap₂, sym, ◌∙◌, Bool, true, false, cond, not, List, [], map, map-append, ℕ, zero}
use Rattle.kit.specs.Names.{suc, arith, length, replicate, length-append, length-map}
use Rattle.definitions.specs.Basics.{is_true}
use Rattle.definitions.specs.ContractFile.{Name, me_name, Expression, Statement}
use Rattle.definitions.specs.Owners.{owner_of}
use Rattle.definitions.specs.Rewriting.{Variable, supplied, read_from, guard, Guard, always, under, in_body, single, kept, in_sequence, in_branch, in_branches, rewrite_statement, openings}
use Rattle.definitions.specs.Original.{reader_of}
use Rattle.definitions.specs.Ledger.{Content, plain, content_for, honest_contents, honest_variables}
use Rattle.theory_laws.proofs.Written.{opening_count}
use Rattle.file_accepted.specs.Context.{scope_in}
use Rattle.rewrite_events.specs.Events.{Events, variables_of, body_events}
use Rattle.rewrite_events.specs.Ends.{simple_events}
use Rattle.rewrite_events.proofs.Ends.{simple_variables}
use Rattle.rewrite_events.proofs.Pieces.{body_made}
use Rattle.rewrite_events.proofs.Statements.{statement_made}
use Rattle.honest_values.specs.Values.{numbers_after}
use Rattle.honest_values.proofs.Addresses.{value_is, numbers_are}
use Rattle.honest_supplies.specs.Supplies.{supplied_number}
use Rattle.honest_statements.specs.Honest.{Numbering, in_order, branch_numbers, after_if, numbers_for, is_taken, honest_numbers, content_from, contents_from}
use Rattle.honest_statements.proofs.Putting.{order_length, branch_length}

abbrev zeros : List ℕ → List ℕ
zeros ms = map (λ (n : ℕ). 0) ms

module _ (address : Name → ℕ) (call : ℕ) where
  contents_append : (i : ℕ) (xs ys : List Variable) (ms ns : List ℕ) → length ms ≡ length xs
      → contents_from address call i (xs ++ ys) (ms ++ ns) ≡ contents_from address call i xs ms ++ contents_from address call (i + length xs) ys ns
  unfolding contents_from
  contents_append i [] ys [] ns h = let e : i + 0 ≡ i = omega arith in rw e
  contents_append i [] ys (m ∷ ms) ns h = absurd (omega arith)
  contents_append i (x ∷ xs) ys [] ns h = absurd (omega arith)
  contents_append i (x ∷ xs) ys (m ∷ ms) ns h =
      let e : i + suc (length xs) ≡ suc i + length xs = omega arith in
      rw e (ap (λ (l : List Content). content_from address call i x m ∷ l) (contents_append (suc i) xs ys ms ns (omega arith)))

  order_contents : (i m : ℕ) (xs ys : List Variable) (a b : Numbering) → length (a i) ≡ length xs → m ≡ i + length xs
      → contents_from address call i (xs ++ ys) (in_order a b i) ≡ contents_from address call i xs (a i) ++ contents_from address call m ys (b m)
  unfolding in_order
  order_contents i m xs ys a b h e =
      contents_append i xs ys (a i) (b (i + length (a i))) h
      ∙ ap (λ (n : ℕ). contents_from address call i xs (a i) ++ contents_from address call (i + length xs) ys (b (i + n))) h
      ∙ ap (λ (n : ℕ). contents_from address call i xs (a i) ++ contents_from address call n ys (b n)) (sym e)

  contents_zero : (k : ℕ) (vs : List Variable) (ms : List ℕ) → length ms ≡ length vs → contents_from address call k vs (zeros ms) ≡ replicate (length vs) (plain 0)
  unfolding contents_from
  contents_zero k [] ms h = refl
  contents_zero k (v ∷ vs) [] h = absurd (omega arith)
  contents_zero k (v ∷ vs) (m ∷ ms) h = ap (λ (l : List Content). plain 0 ∷ l) (contents_zero (suc k) vs ms (omega arith))

module _ (file : List ℕ) (function_start : ℕ) (arguments : List ℕ) (caller : ℕ) where
  -- In a branch that is not taken all numbers are 0.
  dead_numbers : (p : List ℕ) (l : List Variable) → map (supplied_number file arguments caller false p) l ≡ zeros (map (supplied_number file arguments caller false p) l)
  unfolding supplied_number
  dead_numbers p [] = refl
  dead_numbers p (supplied o e ∷ l) = ap (λ (m : List ℕ). 0 ∷ m) (dead_numbers p l)
  dead_numbers p (read_from o e ∷ l) = ap (λ (m : List ℕ). 0 ∷ m) (dead_numbers p l)
  dead_numbers p (guard ∷ l) = ap (λ (m : List ℕ). 0 ∷ m) (dead_numbers p l)

  dead_events : (events : Events) (p : List ℕ) (i : ℕ)
      → numbers_for file function_start arguments caller events false p i ≡ zeros (numbers_for file function_start arguments caller events false p i)
  unfolding numbers_for
  dead_events events p i = dead_numbers p (variables_of (events i))

  dead_order : (a b : Numbering) → ((i : ℕ) → a i ≡ zeros (a i)) → ((i : ℕ) → b i ≡ zeros (b i)) → (i : ℕ) → in_order a b i ≡ zeros (in_order a b i)
  unfolding in_order
  dead_order a b h k i = ap₂ ◌++◌ (h i) (k (i + length (a i))) ∙ sym (map-append (λ (n : ℕ). 0) (a i) (b (i + length (a i))))

  dead_branch : (a : Numbering) → ((i : ℕ) → a i ≡ zeros (a i)) → (i : ℕ) → branch_numbers a i ≡ zeros (branch_numbers a i)
  unfolding branch_numbers
  dead_branch a h i = ap (λ (l : List ℕ). 0 ∷ l) (h (suc i))

  dead_zero : (s : Statement) (p : List ℕ) (i : ℕ)
      → honest_numbers file function_start arguments caller s false p i ≡ zeros (honest_numbers file function_start arguments caller s false p i)
  unfolding honest_numbers
  dead_zero Statement.skip p i = refl
  dead_zero (Statement.sequence first second) p i = dead_order _ _ (dead_zero first p) (dead_zero second p) i
  dead_zero (Statement.assign_field f e) p i = dead_events _ p i
  dead_zero (Statement.assign_entry f key e) p i = dead_events _ p i
  dead_zero (Statement.require condition) p i = dead_events _ p i
  dead_zero (Statement.conditional condition then else) p i =
      dead_order _ _ (dead_events _ p) (dead_order _ _ (dead_branch _ (dead_zero then p)) (dead_branch _ (dead_zero else p))) i

  -- As many numbers as variables.
  events_count : (events : Events) (live : Bool) (p : List ℕ) (i : ℕ) (vs : List Variable) → variables_of (events i) ≡ vs
      → length (numbers_for file function_start arguments caller events live p i) ≡ length vs
  unfolding numbers_for
  events_count events live p i vs h = length-map (variables_of (events i)) (supplied_number file arguments caller live p) ∙ ap length h

  order_count : (a b : Numbering) (i : ℕ) (xs ys : List Variable) → length (a i) ≡ length xs → length (b (i + length xs)) ≡ length ys
      → length (in_order a b i) ≡ length (xs ++ ys)
  order_count a b i xs ys h k =
      order_length a b i ∙ ap₂ ◌+◌ h (ap (λ (n : ℕ). length (b (i + n))) h ∙ k) ∙ sym (length-append xs ys)

  branch_count : (a : Numbering) (i : ℕ) (xs : List Variable) → length (a (suc i)) ≡ length xs → length (branch_numbers a i) ≡ length (guard ∷ xs)
  branch_count a i xs h = branch_length a i ∙ ap suc h

  -- The variables of a statement that holds no other do not depend on its guard.
  field_variables : (f : ℕ) (e : Expression) (g : Guard) (i : ℕ)
      → variables_of (simple_events (scope_in file function_start) (Statement.assign_field f e) always i) ≡ (rewrite_statement (scope_in file function_start) (Statement.assign_field f e) g i).variables
  unfolding rewrite_statement single
  field_variables f e g i =
      sym (simple_variables (scope_in file function_start) (Statement.assign_field f e) always i refl) ∙ (statement_made (scope_in file function_start) (Statement.assign_field f e) always i).variables

  entry_variables : (f : ℕ) (key e : Expression) (g : Guard) (i : ℕ)
      → variables_of (simple_events (scope_in file function_start) (Statement.assign_entry f key e) always i) ≡ (rewrite_statement (scope_in file function_start) (Statement.assign_entry f key e) g i).variables
  unfolding rewrite_statement single
  entry_variables f key e g i =
      sym (simple_variables (scope_in file function_start) (Statement.assign_entry f key e) always i refl) ∙ (statement_made (scope_in file function_start) (Statement.assign_entry f key e) always i).variables

  require_variables : (e : Expression) (g : Guard) (i : ℕ)
      → variables_of (simple_events (scope_in file function_start) (Statement.require e) always i) ≡ (rewrite_statement (scope_in file function_start) (Statement.require e) g i).variables
  unfolding rewrite_statement single
  require_variables e g i =
      sym (simple_variables (scope_in file function_start) (Statement.require e) always i refl) ∙ (statement_made (scope_in file function_start) (Statement.require e) always i).variables

  pub honest_count : (s : Statement) (live : Bool) (p : List ℕ) (g : Guard) (i : ℕ)
      → length (honest_numbers file function_start arguments caller s live p i) ≡ length (rewrite_statement (scope_in file function_start) s g i).variables
  unfolding honest_numbers rewrite_statement single kept in_sequence in_branches in_branch
  honest_count Statement.skip live p g i = refl
  honest_count (Statement.sequence first second) live p g i =
      let scope = scope_in file function_start in
      let a = (rewrite_statement scope first g i).variables in
      let j = i + length a in
      order_count _ _ i a (rewrite_statement scope second g j).variables (honest_count first live p g i)
      (honest_count second live (after_if file function_start arguments caller live p first) g j)
  honest_count (Statement.assign_field f e) live p g i = events_count _ live p i _ (field_variables f e g i)
  honest_count (Statement.assign_entry f key e) live p g i = events_count _ live p i _ (entry_variables f key e g i)
  honest_count (Statement.require condition) live p g i = events_count _ live p i _ (require_variables condition g i)
  honest_count (Statement.conditional condition then else) live p g i =
      let scope = scope_in file function_start in
      let taken = is_taken file function_start arguments caller p condition in
      let c = (in_body (owner_of scope) condition i).variables in
      let j = i + length c in
      let a = (rewrite_statement scope then (under j) (suc j)).variables in
      let k = j + suc (length a) in
      let b = (rewrite_statement scope else (under k) (suc k)).variables in
      order_count _ _ i c ((guard ∷ a) ++ (guard ∷ b)) (events_count _ live p i c (body_made scope always condition i).variables)
      (order_count _ _ j (guard ∷ a) (guard ∷ b) (branch_count _ j a (honest_count then (live && taken) p (under j) (suc j)))
      (branch_count _ k b (honest_count else (live && not taken) p (under k) (suc k))))

module _ (file : List ℕ) (function_start : ℕ) (arguments : List ℕ) (caller : ℕ) (address : Name → ℕ) (call : ℕ) (same : address me_name ≡ caller) where
  contents_of_law : (p : List ℕ) (i : ℕ) (vs : List Variable)
      → honest_contents (scope_in file function_start) address call arguments p i vs ≡ contents_from address call i vs (map (supplied_number file arguments caller true p) vs)
  unfolding honest_contents contents_from supplied_number
  contents_of_law p i [] = refl
  contents_of_law p i (supplied o e ∷ vs) =
      ap₂ ◌∷◌ (ap (content_for (reader_of address o) call (8 + i)) (value_is file address arguments caller same p e)) (contents_of_law p (suc i) vs)
  contents_of_law p i (read_from o e ∷ vs) = ap (λ (l : List Content). plain 0 ∷ l) (contents_of_law p (suc i) vs)
  contents_of_law p i (guard ∷ vs) = ap (λ (l : List Content). plain 0 ∷ l) (contents_of_law p (suc i) vs)

  -- A statement that holds no other, and a condition.
  contents_events : (events : Events) (p : List ℕ) (i : ℕ) (vs : List Variable) → variables_of (events i) ≡ vs
      → honest_contents (scope_in file function_start) address call arguments p i vs
      ≡ contents_from address call i vs (numbers_for file function_start arguments caller events true p i)
  unfolding numbers_for
  contents_events events p i vs h =
      contents_of_law p i vs ∙ ap (λ (l : List Variable). contents_from address call i vs (map (supplied_number file arguments caller true p) l)) (sym h)

  dead_contents : (s : Statement) (p : List ℕ) (g : Guard) (k : ℕ)
      → contents_from address call k (guard ∷ (rewrite_statement (scope_in file function_start) s g (suc k)).variables)
      (branch_numbers (honest_numbers file function_start arguments caller s false p) k)
      ≡ replicate (suc (length (rewrite_statement (scope_in file function_start) s g (suc k)).variables)) (plain 0)
  dead_contents s p g k =
      let vs = (rewrite_statement (scope_in file function_start) s g (suc k)).variables in
      let inside = honest_numbers file function_start arguments caller s false p in
      ap (contents_from address call k (guard ∷ vs)) (dead_branch file function_start arguments caller inside (dead_zero file function_start arguments caller s p) k)
      ∙ contents_zero address call k (guard ∷ vs) (branch_numbers inside k)
      (branch_count file function_start arguments caller inside k vs (honest_count file function_start arguments caller s false p g (suc k)))

  live_contents : (s : Statement) (p : List ℕ) (g : Guard) (k : ℕ)
      → honest_variables (scope_in file function_start) address call arguments s p g (suc k)
      ≡ contents_from address call (suc k) (rewrite_statement (scope_in file function_start) s g (suc k)).variables (honest_numbers file function_start arguments caller s true p (suc k))
      → (plain 0 ∷ honest_variables (scope_in file function_start) address call arguments s p g (suc k))
      ≡ contents_from address call k (guard ∷ (rewrite_statement (scope_in file function_start) s g (suc k)).variables)
      (branch_numbers (honest_numbers file function_start arguments caller s true p) k)
  unfolding contents_from branch_numbers
  live_contents s p g k h = ap (λ (l : List Content). plain 0 ∷ l) h

  -- Of two branches the one that is taken holds honest variables, and the other plain 0.
  branches : (then else : Statement) (p : List ℕ) (j k : ℕ)
      → honest_variables (scope_in file function_start) address call arguments then p (under j) (suc j)
      ≡ contents_from address call (suc j) (rewrite_statement (scope_in file function_start) then (under j) (suc j)).variables (honest_numbers file function_start arguments caller then true p (suc j))
      → honest_variables (scope_in file function_start) address call arguments else p (under k) (suc k)
      ≡ contents_from address call (suc k) (rewrite_statement (scope_in file function_start) else (under k) (suc k)).variables (honest_numbers file function_start arguments caller else true p (suc k))
      → (taken : Bool)
      → cond taken
      ((plain 0 ∷ honest_variables (scope_in file function_start) address call arguments then p (under j) (suc j))
      ++ replicate (suc (length (rewrite_statement (scope_in file function_start) else (under k) (suc k)).variables)) (plain 0))
      (replicate (suc (length (rewrite_statement (scope_in file function_start) then (under j) (suc j)).variables)) (plain 0)
      ++ (plain 0 ∷ honest_variables (scope_in file function_start) address call arguments else p (under k) (suc k)))
      ≡ contents_from address call j (guard ∷ (rewrite_statement (scope_in file function_start) then (under j) (suc j)).variables)
      (branch_numbers (honest_numbers file function_start arguments caller then taken p) j)
      ++ contents_from address call k (guard ∷ (rewrite_statement (scope_in file function_start) else (under k) (suc k)).variables)
      (branch_numbers (honest_numbers file function_start arguments caller else (not taken) p) k)
  branches then else p j k h l true = ap₂ ◌++◌ (live_contents then p (under j) j h) (sym (dead_contents else p (under k) k))
  branches then else p j k h l false = ap₂ ◌++◌ (sym (dead_contents then p (under j) j)) (live_contents else p (under k) k l)

  pub honest_is : (s : Statement) (p : List ℕ) (g : Guard) (i : ℕ)
      → honest_variables (scope_in file function_start) address call arguments s p g i
      ≡ contents_from address call i (rewrite_statement (scope_in file function_start) s g i).variables (honest_numbers file function_start arguments caller s true p i)
  unfolding honest_variables honest_numbers rewrite_statement single kept in_sequence in_branches in_branch contents_from
  honest_is Statement.skip p g i = refl
  honest_is (Statement.sequence first second) p g i =
      let scope = scope_in file function_start in
      let a = (rewrite_statement scope first g i).variables in
      let j = i + length a in
      let after = numbers_after file arguments caller p first in
      ap₂ ◌++◌ (honest_is first p g i)
      (ap (λ (l : List ℕ). honest_variables scope address call arguments second l g j) (numbers_are file address arguments caller same p first) ∙ honest_is second after g j)
      ∙ sym (order_contents address call i j a (rewrite_statement scope second g j).variables _ _ (honest_count file function_start arguments caller first true p g i) refl)
  honest_is (Statement.assign_field f e) p g i = contents_events _ p i _ (field_variables file function_start arguments caller f e g i)
  honest_is (Statement.assign_entry f key e) p g i = contents_events _ p i _ (entry_variables file function_start arguments caller f key e g i)
  honest_is (Statement.require condition) p g i = contents_events _ p i _ (require_variables file function_start arguments caller condition g i)
  honest_is (Statement.conditional condition then else) p g i =
      let scope = scope_in file function_start in
      let T = is_taken file function_start arguments caller p condition in
      let c = (in_body (owner_of scope) condition i).variables in
      let j = i + length c in
      let a = (rewrite_statement scope then (under j) (suc j)).variables in
      let k = j + suc (length a) in
      let b = (rewrite_statement scope else (under k) (suc k)).variables in
      let then_numbers_law = branch_numbers (honest_numbers file function_start arguments caller then T p) in
      let else_numbers_law = branch_numbers (honest_numbers file function_start arguments caller else (not T) p) in
      ap₂ ◌++◌ (contents_events (body_events scope always condition) p i c (body_made scope always condition i).variables)
      (ap (λ (v : ℕ). cond (is_true v) (plain 0 ∷ honest_variables scope address call arguments then p (under j) (suc j) ++ replicate (suc (length b)) (plain 0))
      (replicate (suc (length a)) (plain 0) ++ (plain 0 ∷ honest_variables scope address call arguments else p (under k) (suc k))))
      (value_is file address arguments caller same p condition)
      ∙ branches then else p j k (honest_is then p (under j) (suc j)) (honest_is else p (under k) (suc k)) T
      ∙ sym (order_contents address call j k (guard ∷ a) (guard ∷ b) then_numbers_law else_numbers_law
      (branch_count file function_start arguments caller _ j a (honest_count file function_start arguments caller then T p (under j) (suc j))) refl))
      ∙ sym (order_contents address call i j c ((guard ∷ a) ++ (guard ∷ b)) (numbers_for file function_start arguments caller (body_events scope always condition) true p)
      (in_order then_numbers_law else_numbers_law)
      (events_count file function_start arguments caller _ true p i c (body_made scope always condition i).variables) refl)

  -- The variables that read a function's private parameters come before those of its body.
  pub opening_numbers_law : (p ks : List ℕ) (i : ℕ) → map (supplied_number file arguments caller true p) (openings ks i).variables ≡ replicate (length ks) 0
  unfolding openings supplied_number
  opening_numbers_law p [] i = refl
  opening_numbers_law p (k ∷ ks) i = ap (λ (l : List ℕ). 0 ∷ l) (opening_numbers_law p ks (suc i))

  -- All honest variables of a call, from a number for each.
  pub call_is : (s : Statement) (p ks : List ℕ)
      → honest_contents (scope_in file function_start) address call arguments p 0 (openings ks 0).variables
      ++ honest_variables (scope_in file function_start) address call arguments s p always (length (openings ks 0).variables)
      ≡ contents_from address call 0
      ((openings ks 0).variables ++ (rewrite_statement (scope_in file function_start) s always (length (openings ks 0).variables)).variables)
      (replicate (length ks) 0 ++ honest_numbers file function_start arguments caller s true p (length (openings ks 0).variables))
  call_is s p ks =
      let opening = (openings ks 0).variables in
      let body = (rewrite_statement (scope_in file function_start) s always (length opening)).variables in
      let numbers = honest_numbers file function_start arguments caller s true p (length opening) in
      let start : length opening ≡ 0 + length opening = omega arith in
      ap₂ ◌++◌ (contents_of_law p 0 opening ∙ ap (contents_from address call 0 opening) (opening_numbers_law p ks 0))
      (honest_is s p always (length opening) ∙ ap (λ (n : ℕ). contents_from address call n body numbers) start)
      ∙ sym (contents_append address call 0 opening body (replicate (length ks) 0) numbers (replicated (length ks) ∙ sym (opening_count ks 0)))
    where
      replicated : (n : ℕ) → length {A = ℕ} (replicate n 0) ≡ n
      replicated zero = refl
      replicated (suc n) = ap suc (replicated n)
