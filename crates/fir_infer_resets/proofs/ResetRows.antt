-- Worked circuits, computed: what is joined in them, and the faults of resets that they show.
use Rattle.std.proofs.Common.{◌≡◌, ℕ, [], ◌∷◌, ◌++◌, false, true, Some, refl, inl, inr}
use Rattle.std.specs.Prelude.{codes}
use Rattle.std.specs.Fmt.{digits}
use Rattle.fir_bits.specs.declared.operators.PrimOp.TheVariants as op
use Rattle.fir_base.specs.Lists.{In}
use Rattle.fir_ast.specs.Types.{DataType, uint, clock, reset, async_reset, bundle, vector, no_fields}
use Rattle.fir_ast.specs.Expressions.{no_parts, subfield, subindex, subaccess}
use Rattle.fir_ast.specs.Statements.{register, instance}
use Rattle.fir_ast.specs.Circuits.{CircuitTree}
use Rattle.fir_ast.specs.Faults.{E18}
use Rattle.fir_meaning.specs.LeafPaths.{LeafPath, named, element}
use Rattle.fir_meaning.specs.TypeLeaves.{type_leaves}
use Rattle.fir_meaning.specs.Flows as flow
use Rattle.fir_meaning.specs.TypedScopes.{Known}
use Rattle.fir_meaning.proofs.SmallTrees.{at, name_at, input, part_of, ref, picked_of, one, wire_at, node_at, assign_to, assign, module_at, circuit, main_only}
use Rattle.fir_meaning.specs.ResetItems.{End, leaf_item, leaf_end, value_end}
use Rattle.fir_meaning.specs.ResetJoins.{Join, joins, AreElements}
use Rattle.fir_meaning.specs.ResetWalks.{IsLeafOf, ShowsResets}
use Rattle.fir_infer_resets.proofs.EndTests.{ends_distinct}

abbrev leaf : ℕ → ℕ → ℕ → LeafPath → DataType → End
leaf number l c path t = leaf_end number (at l c) path t

abbrev join : End → End → Join
join a b = record { one = a; other = b }

-- a wire between a UInt and an AsyncReset
abbrev pub between : CircuitTree
between =
    main_only (input 3 11 (codes "u") (uint (Some 1)) ∷ input 4 11 (codes "a") async_reset ∷ [])
    (wire_at 5 10 (codes "w") reset ∷ assign 6 5 (codes "w") (ref 6 10 (codes "u")) ∷ assign 7 5 (codes "w") (ref 7 10 (codes "a")) ∷ [])

abbrev u_leaf : End
u_leaf = leaf 0 3 11 (named (codes "u") ∷ []) (uint (Some 1))

abbrev a_leaf : End
a_leaf = leaf 0 4 11 (named (codes "a") ∷ []) async_reset

abbrev w_leaf : End
w_leaf = leaf 0 5 10 (named (codes "w") ∷ []) reset

pub between_joins : joins between ≡ join w_leaf u_leaf ∷ join w_leaf a_leaf ∷ []
between_joins = refl

pub between_shown : ShowsResets between (record { code = E18; place = at 5 10; evidence = codes "resets u - w - a" })
between_shown = record {
  begins = u_leaf;
  first = w_leaf;
  others = [];
  ends = a_leaf;
  walk = record {
    uint_end = (Some 1, refl);
    resets = (refl, tt);
    async_end = refl;
    chain = (inr (inl (inl refl)), (inl (inr (inl refl)), tt));
    once = ends_distinct (u_leaf ∷ w_leaf ∷ a_leaf ∷ []) refl;
  };
  is = refl;
}

-- two elements of a vector are one leaf
abbrev pub elements : CircuitTree
elements =
    main_only (input 3 11 (codes "u") (uint (Some 1)) ∷ input 4 11 (codes "a") async_reset ∷ [])
    (wire_at 5 10 (codes "v") (vector reset 2) ∷ assign_to 6 5 (codes "v") (subindex (at 6 6) (at 6 7) 0 no_parts) (ref 6 13 (codes "u"))
    ∷ assign_to 7 5 (codes "v") (subindex (at 7 6) (at 7 7) 1 no_parts) (ref 7 13 (codes "a")) ∷ [])

abbrev element_leaf : ℕ → End
element_leaf i = leaf 0 5 10 (named (codes "v") ∷ element i ∷ []) reset

pub elements_joins : joins elements ≡ join (element_leaf 0) u_leaf ∷ join (element_leaf 1) a_leaf ∷ []
elements_joins = refl

abbrev vector_known : Known
vector_known = record { name = codes "v"; flow = flow.both; data_type = Some (vector reset 2) }

first_element : IsLeafOf elements (element_leaf 0)
first_element = record {
  number = 0;
  inside = _;
  is_module = refl;
  declared = vector_known;
  is_declared = inr (inr (inl refl));
  data_type = vector reset 2;
  has_type = refl;
  leaf = record { path = element 0 ∷ []; flip = false; ground_type = reset };
  is_leaf = inl refl;
  item = refl;
  ground_type = refl;
  place = refl;
}

second_element : IsLeafOf elements (element_leaf 1)
second_element = record {
  number = 0;
  inside = _;
  is_module = refl;
  declared = vector_known;
  is_declared = inr (inr (inl refl));
  data_type = vector reset 2;
  has_type = refl;
  leaf = record { path = element 1 ∷ []; flip = false; ground_type = reset };
  is_leaf = inr (inl refl);
  item = refl;
  ground_type = refl;
  place = refl;
}

one_leaf : AreElements (element_leaf 0) (element_leaf 1)
one_leaf = record {
  number = 0;
  vector = named (codes "v") ∷ [];
  one = 0;
  other = 1;
  rest = [];
  one_is = refl;
  other_is = refl;
  ground_type = refl;
  place = refl;
}

pub elements_shown : ShowsResets elements (record { code = E18; place = at 5 10; evidence = codes "resets u - v[0] - v[1] - a" })
unfolding digits
elements_shown = record {
  begins = u_leaf;
  first = element_leaf 0;
  others = element_leaf 1 ∷ [];
  ends = a_leaf;
  walk = record {
    uint_end = (Some 1, refl);
    resets = (refl, (refl, tt));
    async_end = refl;
    chain = (inr (inl (inl refl)), (inr (inr (first_element, second_element, one_leaf)), (inl (inr (inl refl)), tt)));
    once = ends_distinct (u_leaf ∷ element_leaf 0 ∷ element_leaf 1 ∷ a_leaf ∷ []) refl;
  };
  is = refl;
}

-- of a vector of vectors, leaves in which two numbers differ are joined through a third leaf
abbrev pub within : CircuitTree
within =
    main_only (input 3 11 (codes "u") (uint (Some 1)) ∷ input 4 11 (codes "a") async_reset ∷ [])
    (wire_at 5 10 (codes "r") (vector (vector reset 2) 2)
    ∷ assign_to 6 5 (codes "r") (subindex (at 6 6) (at 6 7) 0 (subindex (at 6 9) (at 6 10) 0 no_parts)) (ref 6 16 (codes "u"))
    ∷ assign_to 7 5 (codes "r") (subindex (at 7 6) (at 7 7) 1 (subindex (at 7 9) (at 7 10) 1 no_parts)) (ref 7 16 (codes "a")) ∷ [])

abbrev inner_path : ℕ → ℕ → LeafPath
inner_path i j = named (codes "r") ∷ element i ∷ element j ∷ []

abbrev inner_leaf : ℕ → ℕ → End
inner_leaf i j = leaf 0 5 10 (inner_path i j) reset

pub within_joins : joins within ≡ join (inner_leaf 0 0) u_leaf ∷ join (inner_leaf 1 1) a_leaf ∷ []
within_joins = refl

abbrev inner_known : Known
inner_known = record { name = codes "r"; flow = flow.both; data_type = Some (vector (vector reset 2) 2) }

inner_is_leaf : (i j : ℕ) → In (type_leaves (vector (vector reset 2) 2)) (record { path = element i ∷ element j ∷ []; flip = false; ground_type = reset })
    → IsLeafOf within (inner_leaf i j)
inner_is_leaf i j m = record {
  number = 0;
  inside = _;
  is_module = refl;
  declared = inner_known;
  is_declared = inr (inr (inl refl));
  data_type = vector (vector reset 2) 2;
  has_type = refl;
  leaf = record { path = element i ∷ element j ∷ []; flip = false; ground_type = reset };
  is_leaf = m;
  item = refl;
  ground_type = refl;
  place = refl;
}

in_first_row : AreElements (inner_leaf 0 0) (inner_leaf 0 1)
in_first_row = record {
  number = 0;
  vector = named (codes "r") ∷ element 0 ∷ [];
  one = 0;
  other = 1;
  rest = [];
  one_is = refl;
  other_is = refl;
  ground_type = refl;
  place = refl;
}

in_second_column : AreElements (inner_leaf 0 1) (inner_leaf 1 1)
in_second_column = record {
  number = 0;
  vector = named (codes "r") ∷ [];
  one = 0;
  other = 1;
  rest = element 1 ∷ [];
  one_is = refl;
  other_is = refl;
  ground_type = refl;
  place = refl;
}

pub within_shown : ShowsResets within (record { code = E18; place = at 5 10; evidence = codes "resets u - r[0][0] - r[0][1] - r[1][1] - a" })
unfolding digits
within_shown = record {
  begins = u_leaf;
  first = inner_leaf 0 0;
  others = inner_leaf 0 1 ∷ inner_leaf 1 1 ∷ [];
  ends = a_leaf;
  walk = record {
    uint_end = (Some 1, refl);
    resets = (refl, (refl, (refl, tt)));
    async_end = refl;
    chain = (
      inr (inl (inl refl)),
      (
        inr (inr (inner_is_leaf 0 0 (inl refl), inner_is_leaf 0 1 (inr (inl refl)), in_first_row)),
        (
          inr (inr (inner_is_leaf 0 1 (inr (inl refl)), inner_is_leaf 1 1 (inr (inr (inr (inl refl)))), in_second_column)),
          (inl (inr (inl refl)), tt),
        ),
      ),
    );
    once = ends_distinct (u_leaf ∷ inner_leaf 0 0 ∷ inner_leaf 0 1 ∷ inner_leaf 1 1 ∷ a_leaf ∷ []) refl;
  };
  is = refl;
}

-- alone they are no elements of one vector
pub far_apart : AreElements (inner_leaf 0 0) (inner_leaf 1 1) → ⊥
far_apart e = by e.number e.vector e.one_is e.other_is
  where
    by : (number : ℕ) (front : LeafPath) → leaf_item 0 (inner_path 0 0) ≡ leaf_item number (front ++ element e.one ∷ e.rest)
        → leaf_item 0 (inner_path 1 1) ≡ leaf_item number (front ++ element e.other ∷ e.rest) → ⊥
    by number [] h i = absurd (cc)
    by number (s ∷ []) h i = absurd (cc)
    by number (s ∷ t ∷ []) h i = absurd (cc)
    by number (s ∷ t ∷ u ∷ []) h i = absurd (cc)
    by number (s ∷ t ∷ u ∷ v ∷ front) h i = absurd (cc)

-- what an index picks is each element; where it is no Reset, also the expression
abbrev pub picked : CircuitTree
picked =
    main_only (input 3 11 (codes "u") (uint (Some 1)) ∷ input 4 11 (codes "q") (vector (uint (Some 1)) 2) ∷ [])
    (wire_at 5 10 (codes "v") (vector reset 2) ∷ wire_at 6 10 (codes "w") reset
    ∷ assign_to 7 5 (codes "v") (subaccess (at 7 6) (ref 7 7 (codes "u")) no_parts) (ref 7 13 (codes "u"))
    ∷ assign 8 5 (codes "w") (picked_of 8 10 (codes "q") (ref 8 12 (codes "u"))) ∷ [])

pub picked_joins : joins picked
    ≡ join (element_leaf 0) u_leaf ∷ join (element_leaf 1) u_leaf
    ∷ join (leaf 0 6 10 (named (codes "w") ∷ []) reset) (leaf 0 4 11 (named (codes "q") ∷ element 0 ∷ []) (uint (Some 1)))
    ∷ join (leaf 0 6 10 (named (codes "w") ∷ []) reset) (leaf 0 4 11 (named (codes "q") ∷ element 1 ∷ []) (uint (Some 1)))
    ∷ join (leaf 0 6 10 (named (codes "w") ∷ []) reset) (value_end (at 8 10) (uint (Some 1))) ∷ []
picked_joins = refl

-- two instances of one module share its port
abbrev pub children : CircuitTree
children =
    circuit
    (module_at 2 10 (codes "T") (input 3 11 (codes "u") (uint (Some 1)) ∷ input 4 11 (codes "a") async_reset ∷ [])
    (instance (at 5 5) (name_at 5 10 (codes "i")) (name_at 5 15 (codes "M")) ∷ instance (at 6 5) (name_at 6 10 (codes "j")) (name_at 6 15 (codes "M"))
    ∷ assign_to 7 5 (codes "i") (subfield (at 7 6) (at 7 7) (codes "r") no_parts) (ref 7 12 (codes "u"))
    ∷ assign_to 8 5 (codes "j") (subfield (at 8 6) (at 8 7) (codes "r") no_parts) (ref 8 12 (codes "a")) ∷ [])
    ∷ module_at 9 10 (codes "M") (input 10 11 (codes "r") reset ∷ []) [] ∷ [])

abbrev i_leaf : End
i_leaf = leaf 0 5 10 (named (codes "i") ∷ named (codes "r") ∷ []) reset

abbrev j_leaf : End
j_leaf = leaf 0 6 10 (named (codes "j") ∷ named (codes "r") ∷ []) reset

abbrev r_leaf : End
r_leaf = leaf 1 10 11 (named (codes "r") ∷ []) reset

pub children_joins : joins children ≡ join i_leaf r_leaf ∷ join j_leaf r_leaf ∷ join i_leaf u_leaf ∷ join j_leaf a_leaf ∷ []
children_joins = refl

pub children_shown : ShowsResets children (record { code = E18; place = at 5 10; evidence = codes "resets u - i.r - r - j.r - a" })
children_shown = record {
  begins = u_leaf;
  first = i_leaf;
  others = r_leaf ∷ j_leaf ∷ [];
  ends = a_leaf;
  walk = record {
    uint_end = (Some 1, refl);
    resets = (refl, (refl, (refl, tt)));
    async_end = refl;
    chain = (
      inr (inl (inr (inr (inl refl)))),
      (
        inl (inl refl),
        (
          inr (inl (inr (inl refl))),
          (inl (inr (inr (inr (inl refl)))), tt),
        ),
      ),
    );
    once = ends_distinct (u_leaf ∷ i_leaf ∷ r_leaf ∷ j_leaf ∷ a_leaf ∷ []) refl;
  };
  is = refl;
}

-- a node passes a Reset on
abbrev pub passed : CircuitTree
passed =
    main_only (input 3 11 (codes "u") (uint (Some 1)) ∷ input 4 11 (codes "a") async_reset ∷ [])
    (wire_at 5 10 (codes "w") reset ∷ assign 6 5 (codes "w") (ref 6 10 (codes "u")) ∷ node_at 7 10 (codes "n") (ref 7 14 (codes "w"))
    ∷ wire_at 8 10 (codes "x") reset ∷ assign 9 5 (codes "x") (ref 9 10 (codes "n")) ∷ assign 10 5 (codes "x") (ref 10 10 (codes "a")) ∷ [])

abbrev n_leaf : End
n_leaf = leaf 0 7 10 (named (codes "n") ∷ []) reset

abbrev x_leaf : End
x_leaf = leaf 0 8 10 (named (codes "x") ∷ []) reset

pub passed_joins : joins passed ≡ join w_leaf u_leaf ∷ join n_leaf w_leaf ∷ join x_leaf n_leaf ∷ join x_leaf a_leaf ∷ []
passed_joins = refl

pub passed_shown : ShowsResets passed (record { code = E18; place = at 5 10; evidence = codes "resets u - w - n - x - a" })
passed_shown = record {
  begins = u_leaf;
  first = w_leaf;
  others = n_leaf ∷ x_leaf ∷ [];
  ends = a_leaf;
  walk = record {
    uint_end = (Some 1, refl);
    resets = (refl, (refl, (refl, tt)));
    async_end = refl;
    chain = (
      inr (inl (inl refl)),
      (
        inr (inl (inr (inl refl))),
        (
          inr (inl (inr (inr (inl refl)))),
          (inl (inr (inr (inr (inl refl)))), tt),
        ),
      ),
    );
    once = ends_distinct (u_leaf ∷ w_leaf ∷ n_leaf ∷ x_leaf ∷ a_leaf ∷ []) refl;
  };
  is = refl;
}

-- in a connect of bundles a flipped field meets that of the other side too
abbrev pub turned : CircuitTree
turned =
    main_only []
    (wire_at 3 10 (codes "p") (bundle (part_of false (codes "x") reset (part_of true (codes "y") reset no_fields)))
    ∷ wire_at 4 10 (codes "q") (bundle (part_of false (codes "x") (uint (Some 1)) (part_of true (codes "y") async_reset no_fields)))
    ∷ assign 5 5 (codes "p") (ref 5 10 (codes "q")) ∷ [])

pub turned_joins : joins turned
    ≡ join (leaf 0 3 10 (named (codes "p") ∷ named (codes "x") ∷ []) reset) (leaf 0 4 10 (named (codes "q") ∷ named (codes "x") ∷ []) (uint (Some 1)))
    ∷ join (leaf 0 3 10 (named (codes "p") ∷ named (codes "y") ∷ []) reset) (leaf 0 4 10 (named (codes "q") ∷ named (codes "y") ∷ []) async_reset) ∷ []
turned_joins = refl

-- the condition and the init of a register join nothing
abbrev pub begun : CircuitTree
begun =
    main_only (input 3 11 (codes "clock") clock ∷ input 4 11 (codes "rst") reset ∷ input 5 11 (codes "u") (uint (Some 1)) ∷ [])
    (register (at 6 5) (name_at 6 9 (codes "r")) (at 6 13) (uint (Some 1)) (ref 6 22 (codes "clock"))
    (Some (record { place = at 6 34; condition = ref 6 44 (codes "rst"); init = ref 6 49 (codes "u") })) ∷ [])

pub begun_joins : joins begun ≡ []
begun_joins = refl

-- an expression is an item of its own, and is printed as its place
abbrev pub converted : CircuitTree
converted =
    main_only (input 3 11 (codes "u") (uint (Some 1)) ∷ input 4 11 (codes "b") (uint (Some 1)) ∷ [])
    (wire_at 5 10 (codes "w") reset ∷ assign 6 5 (codes "w") (ref 6 10 (codes "u")) ∷ assign 7 5 (codes "w") (one 7 10 op.AsAsyncReset (ref 7 23 (codes "b")) []) ∷ [])

pub converted_joins : joins converted ≡ join w_leaf u_leaf ∷ join w_leaf (value_end (at 7 10) async_reset) ∷ []
converted_joins = refl

pub converted_shown : ShowsResets converted (record { code = E18; place = at 5 10; evidence = codes "resets u - w - 7:10" })
unfolding digits
converted_shown = record {
  begins = u_leaf;
  first = w_leaf;
  others = [];
  ends = value_end (at 7 10) async_reset;
  walk = record {
    uint_end = (Some 1, refl);
    resets = (refl, tt);
    async_end = refl;
    chain = (inr (inl (inl refl)), (inl (inr (inl refl)), tt));
    once = ends_distinct (u_leaf ∷ w_leaf ∷ value_end (at 7 10) async_reset ∷ []) refl;
  };
  is = refl;
}
