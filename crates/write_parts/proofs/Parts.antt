-- Function by function, headings and nodes come to stand in their buffers; with the fields before them they are the written file.
use Rattle.std.specs.Prelude.{◌≡◌, ◌∷◌, ◌++◌, ◌+◌, ◌*◌, ◌<◌, ◌≤◌}
use Rattle.kit.specs.Names.{ap, sym, ◌∙◌, List, [], map, map-append, append_assoc, ℕ, suc, arith}
use Rattle.kit.specs.Names.{add-one, length, set, take, length-append, length-map, length-take-le, take_all}
use Rattle.definitions.specs.Basics.{flat_map, two_bytes}
use Rattle.definitions.specs.ContractFile.{field_count, function_count, functions_at, function_end, contract_in}
use Rattle.definitions.specs.Reading.{functions_passed}
use Rattle.definitions.specs.Crossings.{sixteen, crossings_in}
use Rattle.definitions.specs.Numbers.{check_number}
use Rattle.definitions.specs.Rewriting.{WrittenFunction, rewrite, sizes, function_trees, numbered_all, node_bytes, function_bytes, written_file, functions_written}
use Rattle.theory_crossings.specs.Crossings.{crossings}
use Rattle.theory_crossings.proofs.Headings.{counts_are_read}
use Rattle.file_accepted.specs.Functions.{function_start}
use Rattle.memory_buffer.specs.Buffer.{stored}
use Rattle.memory_buffer.proofs.Storing.{stored_nothing, stored_then}
use Rattle.memory_append.specs.Append.{Appended}
use Rattle.memory_append.proofs.Appending.{appended_then}
use Rattle.write_fields.specs.Fields.{field_section}
use Rattle.write_fields.proofs.Fields.{section_length}
use Rattle.write_crossings.proofs.Sixteen.{sixteen_next}
use Rattle.write_room.specs.Rooms.{most_bytes, most_headings}
use Rattle.write_function_room.specs.Functions.{written_in, written_functions, headings_before, nodes_before, FunctionRoom}
use Rattle.write_function_room.proofs.Written.{functions_counted_law, take_next, headings_step, node_bytes_step, before_step, headings_before_step, nodes_before_length, start_step, before_first, headings_first, file_parts, written_length_law}
use Rattle.write_function_room.proofs.Room.{file_fits, file_fits_by_parts, headings_fit_by_parts}
use Rattle.write_parts.specs.Parts.{headings_of, nodes_of, crossings_of, heading_part, node_part, FunctionsPut, PartsPut}

module _ (file : List ℕ) where
  -- The start of function f + 1, as code counts.
  pub next_start : (f at next : ℕ) → at ≡ function_start file f → next ≡ function_end file at → next ≡ function_start file (f + 1)
  next_start f at next a e = e ∙ ap (function_end file) a ∙ sym (start_step file f) ∙ ap (function_start file) (sym (add-one f))

  pub first_start : (at : ℕ) → at ≡ functions_at file → at + 1 ≡ function_start file 0
  unfolding functions_passed
  first_start at e = ap (λ (n : ℕ). n + 1) e

  module _ (h₀ n₀ : List ℕ) (from : ℕ) where
    pub none_put : from ≡ 1 + 3 * field_count file + 1 → (counts : List ℕ) → counts ≡ sixteen [] → FunctionsPut file 0 from h₀ h₀ n₀ n₀ from 0 counts
    unfolding functions_written flat_map numbered_all
    none_put e counts none =
        record {
          headings = sym (stored_nothing h₀ from);
          end = e ∙ sym (headings_first file);
          nodes = sym (stored_nothing n₀ 0);
          count = sym (before_first file);
          crossings = none;
        }

    module _ (f : ℕ) (h n : List ℕ) (at base : ℕ) (counts : List ℕ) (put : FunctionsPut file f from h₀ h n₀ n at base counts) where
      -- The next function's heading and nodes go where those before end.
      pub places_fit : (start : ℕ) → start ≡ function_start file f → FunctionRoom file (function_start file f) (headings_before file f) (nodes_before file f) → FunctionRoom file start at base
      places_fit start s room = rw (s, put.end, put.count) room

      module _ (inside : f < function_count file) (room : FunctionRoom file (function_start file f) (headings_before file f) (nodes_before file f))
          (first : from ≡ 1 + 3 * field_count file + 1) (long_headings : most_headings file ≤ length h₀) (long_nodes : most_bytes file ≤ length n₀) where
        headings_at : at ≡ from + length (headings_of file f)
        headings_at = let e = put.end in omega arith

        nodes_at_law : 8 * base ≡ 0 + length (nodes_of file f)
        nodes_at_law = let e = put.count in let l = nodes_before_length file f in omega arith

        crossings_long : length (crossings_of file f) ≡ f
        crossings_long =
            length-map (take f (written_functions file)) crossings
            ∙ length-take-le f (written_functions file) (omega (arith, functions_counted_law file))

        -- The count of one function more.
        crossings_step : (start count : ℕ) (counts' : List ℕ) → start ≡ function_start file f → function_count file ≤ 16 → count ≡ crossings (written_in file start)
            → counts' ≡ set counts f count → counts' ≡ sixteen (crossings_of file (suc f))
        crossings_step start count counts' s few c e =
            e ∙ ap (λ (l : List ℕ). set l f count) put.crossings ∙ sixteen_next (crossings_of file f) count f crossings_long (omega arith)
            ∙ ap (λ (n : ℕ). sixteen (crossings_of file f ++ (n ∷ []))) (c ∙ ap (λ (x : ℕ). crossings (written_in file x)) s)
            ∙ ap sixteen (sym (map-append crossings (take f (written_functions file)) _) ∙ ap (map crossings) (sym (take_next file f inside)))

        pub one_put : (start end nodes total count : ℕ) (h' n' counts' : List ℕ) → start ≡ function_start file f
            → h' ≡ stored h at (function_bytes base (written_in file start)) → end ≡ at + length (function_bytes base (written_in file start))
            → n' ≡ stored n (8 * base) (flat_map node_bytes (numbered_all base (function_trees (written_in file start)))) → nodes ≡ sizes (function_trees (written_in file start))
            → total ≡ base + nodes → function_count file ≤ 16 → count ≡ crossings (written_in file start) → counts' ≡ set counts f count
            → FunctionsPut file (f + 1) from h₀ h' n₀ n' end total counts'
        one_put start end nodes total count h' n' counts' s a e b c t few x y =
            let w = written_in file (function_start file f) in
            let m = nodes_before file f in
            let k = put.count in
            let p = put.end in
            let own : function_bytes base (written_in file start) ≡ function_bytes m w = (λ t. function_bytes (k t) (written_in file (s t))) in
            let own_nodes : flat_map node_bytes (numbered_all base (function_trees (written_in file start))) ≡ flat_map node_bytes (numbered_all m (function_trees w)) =
            (λ t. flat_map node_bytes (numbered_all (k t) (function_trees (written_in file (s t))))) in
            let grown = headings_before_step file f inside in
            let more = before_step file f inside in
            let own_length_law = ap length own in
            let own_sizes : sizes (function_trees (written_in file start)) ≡ sizes (function_trees w) = ap (λ (x : ℕ). sizes (function_trees (written_in file x))) s in
            let placed = headings_at in
            let counted = nodes_at_law in
            let l = nodes_before_length file f in
            let fits_heading = room.heading_by_parts in
            let fits_nodes = room.nodes_by_parts in
            rw (add-one f)
            record {
              headings =
                  a ∙ ap (stored h at) own ∙ ap (λ (d : List ℕ). stored d at (function_bytes m w)) put.headings
                  ∙ ap (λ (x : ℕ). stored (stored h₀ from (headings_of file f)) x (function_bytes m w)) placed
                  ∙ stored_then h₀ from (headings_of file f) (function_bytes m w) (omega arith) ∙ ap (stored h₀ from) (sym (headings_step file f inside));
              end = omega arith;
              nodes =
                  b ∙ ap (stored n (8 * base)) own_nodes ∙ ap (λ (d : List ℕ). stored d (8 * base) (flat_map node_bytes (numbered_all m (function_trees w)))) put.nodes
                  ∙ ap (λ (x : ℕ). stored (stored n₀ 0 (nodes_of file f)) x (flat_map node_bytes (numbered_all m (function_trees w)))) counted
                  ∙ stored_then n₀ 0 (nodes_of file f) (flat_map node_bytes (numbered_all m (function_trees w))) (omega arith) ∙ ap (stored n₀ 0) (sym (node_bytes_step file f inside));
              count = omega arith;
              crossings = crossings_step start count counts' s few x y;
            }

  pub all_put : (h₀ n₀ h n counts : List ℕ) (from f at base : ℕ) → f ≡ function_count file → FunctionsPut file f from h₀ h n₀ n at base counts
      → FunctionsPut file (function_count file) from h₀ h n₀ n at base counts
  all_put h₀ n₀ h n counts from f at base e put = rw e at put

  -- The fields, the count of functions, and the functions.
  pub parts_put : (h₀ h₁ h₂ h₃ n₀ n counts : List ℕ) (fields from end base count : ℕ) → most_headings file ≤ length h₀ → field_count file ≤ 64 → count ≡ function_count file
      → Appended h₀ h₁ 0 (field_section file) fields → Appended h₁ h₂ fields (count ∷ []) from → FunctionsPut file (function_count file) from h₂ h₃ n₀ n end base counts
      → PartsPut file h₀ h₃ n₀ n end base counts
  parts_put h₀ h₁ h₂ h₃ n₀ n counts fields from end base count long few c a b put =
      let l = section_length file in
      let front = field_section file ++ (count ∷ []) in
      let both : Appended h₀ h₂ 0 front from = appended_then h₀ 0 h₁ h₂ (field_section file) (count ∷ []) fields from a (omega arith) b in
      let front_long_law = length-append (field_section file) (count ∷ []) in
      let headings = headings_of file (function_count file) in
      let third : Appended h₂ h₃ from headings end = record { contents = put.headings; place = let e = put.end in let p = both.place in omega arith } in
      let whole = appended_then h₀ 0 h₂ h₃ front headings from end both (omega arith) third in
      let same : front ++ headings ≡ heading_part file = append_assoc (field_section file) (count ∷ []) headings ∙ ap (λ (x : ℕ). field_section file ++ (x ∷ headings)) c in
      record {
        headings = whole.contents ∙ ap (stored h₀ 0) same;
        end = let p = whole.place in let q = ap length same in omega arith;
        nodes = put.nodes;
        count = put.count;
        crossings = put.crossings;
      }

  pub file_is : written_file file ≡ heading_part file ++ two_bytes (nodes_before file (function_count file)) ++ node_part file
  file_is = file_parts file

  -- As long as what stands before the count of nodes, and as the nodes.
  pub heading_length : length (heading_part file) ≡ headings_before file (function_count file)
  heading_length =
      let headings = headings_of file (function_count file) in
      let whole = length-append (field_section file) (function_count file ∷ headings) in
      let fields = section_length file in
      omega arith

  pub node_length : length (node_part file) ≡ 8 * nodes_before file (function_count file)
  node_length = nodes_before_length file (function_count file)

  module _ (h₀ h n₀ n : List ℕ) (end base : ℕ) (counts : List ℕ) (put : PartsPut file h₀ h n₀ n end base counts) (accepted : check_number file ≡ 0) where
    -- 02, Note 2: what is handed back is "the count in the written file".
    pub counts_make : counts ≡ sixteen (crossings_in (written_file file))
    unfolding written_file
    counts_make =
        let short : length (written_file file) ≤ 65535 = omega (arith, written_length_law file, file_fits file accepted) in
        put.crossings ∙ ap (λ (gs : List WrittenFunction). sixteen (map crossings gs)) (take_all (function_count file) (written_functions file) (omega (arith, functions_counted_law file)))
        ∙ ap sixteen (sym (counts_are_read (rewrite (contract_in file)) short))

    pub parts_fit : end + 2 + 8 * base ≤ 49152
    parts_fit = let e = put.end in let c = put.count in let l = heading_length in omega (arith, file_fits file accepted)

    pub whole_by_parts : end + 2 + 8 * base ≤ most_bytes file
    whole_by_parts = let e = put.end in let c = put.count in let l = heading_length in omega (arith, file_fits_by_parts file accepted)

    pub heading_by_parts_law : end ≤ most_headings file
    heading_by_parts_law = let e = put.end in let l = heading_length in omega (arith, headings_fit_by_parts file accepted)

    pub parts_make : written_file file ≡ heading_part file ++ two_bytes base ++ node_part file
    parts_make = file_is ∙ ap (λ (k : ℕ). heading_part file ++ two_bytes k ++ node_part file) (sym put.count)

    pub nodes_long : 8 * base ≡ length (node_part file)
    nodes_long = let c = put.count in let l = node_length in omega arith
