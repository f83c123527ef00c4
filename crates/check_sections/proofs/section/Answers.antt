use Rattle.kit.specs.Names.{arith}
use Rattle.check_sections.proofs.Sections.{refused_part, accepted_ends, functions_before_nodes, nodes_within, fields_part, functions_part, nodes_part}
use Rattle.check_sections.proofs.section.Goals as goal

pub returns-then-section_number-ne0 : goal.returns-then-section_number-ne0
returns-then-section_number-ne0 c = refused_part _ _ _ c.section_number.ensures c.if-section_number-ne0.true

pub slice_bounds-result-end-then-n-eq0 : goal.slice_bounds-result-end-then-n-eq0
slice_bounds-result-end-then-n-eq0 c = let is = c.read_layout-l.ensures in
    omega (arith, functions_before_nodes _ _ is, nodes_within _ _ is (accepted_ends _ _ _ c.section_number.ensures c.if-section_number-ne0.false))

pub slice_bounds-result-count-then-n-eq1 : goal.slice_bounds-result-count-then-n-eq1
slice_bounds-result-count-then-n-eq1 c = let is = c.read_layout-l.ensures in
    omega (arith, functions_before_nodes _ _ is, nodes_within _ _ is (accepted_ends _ _ _ c.section_number.ensures c.if-section_number-ne0.false))

pub slice_bounds-result-start-then-n-eq1 : goal.slice_bounds-result-start-then-n-eq1
slice_bounds-result-start-then-n-eq1 c = let is = c.read_layout-l.ensures in
    omega (arith, functions_before_nodes _ _ is, nodes_within _ _ is (accepted_ends _ _ _ c.section_number.ensures c.if-section_number-ne0.false))

pub slice_bounds-result-end-then-n-eq1 : goal.slice_bounds-result-end-then-n-eq1
slice_bounds-result-end-then-n-eq1 c = let is = c.read_layout-l.ensures in
    omega (arith, functions_before_nodes _ _ is, nodes_within _ _ is (accepted_ends _ _ _ c.section_number.ensures c.if-section_number-ne0.false))

pub slice_bounds-result-count-else-n-eq1 : goal.slice_bounds-result-count-else-n-eq1
slice_bounds-result-count-else-n-eq1 c = let is = c.read_layout-l.ensures in
    omega (arith, functions_before_nodes _ _ is, nodes_within _ _ is (accepted_ends _ _ _ c.section_number.ensures c.if-section_number-ne0.false))

pub slice_bounds-result-start-else-n-eq1 : goal.slice_bounds-result-start-else-n-eq1
slice_bounds-result-start-else-n-eq1 c = let is = c.read_layout-l.ensures in
    omega (arith, functions_before_nodes _ _ is, nodes_within _ _ is (accepted_ends _ _ _ c.section_number.ensures c.if-section_number-ne0.false))

pub returns-then-n-eq0 : goal.returns-then-n-eq0
returns-then-n-eq0 c = fields_part _ _ _ c.section_number.ensures c.if-section_number-ne0.false _
    c.read_layout-l.ensures c.if-n-eq0.true

pub returns-then-n-eq1 : goal.returns-then-n-eq1
returns-then-n-eq1 c = functions_part _ _ _ c.section_number.ensures c.if-section_number-ne0.false _
    c.read_layout-l.ensures c.if-n-eq1.true

pub returns-else-n-eq1 : goal.returns-else-n-eq1
returns-else-n-eq1 c = let section-number = c.section_number.ensures in
    nodes_part _ _ _ section-number c.if-section_number-ne0.false _
    c.read_layout-l.ensures c.if-n-eq0.false c.if-n-eq1.false
