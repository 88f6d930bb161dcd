-- The items of a module, as text and as tokens.
-- A semicolon and the end of the line close an item.
use Rattle.std.proofs.Common.{◌≡◌, ℕ, ◌+◌, ◌^◌, ◌<◌, ◌≤◌, List, [], ◌∷◌, ◌++◌, Some, true, false, inl, inr, refl, sym, subst, append_assoc, arith}
use Rattle.std.specs.Prelude.{codes, flat_map, decimal, Bool}
use Rattle.std.specs.List.{AllByRecursion, sum_by}
use Rattle.std.proofs.lemmas.List.Sums.{sum_by-cons}
use Rattle.fir_base.specs.Lists.{In}
use Rattle.fir_base.specs.Words.{is_among}
use Rattle.fir_base.proofs.Each.{all_left, all_right}
use Rattle.fir_base.proofs.Members.{in_right, in_flat_map}
use Rattle.ver_words.specs.Names.{IsName}
use Rattle.ver_ast.specs.declared.tree.Verilog.{Verilog}
use Rattle.ver_ast.specs.declared.tree.Item.{Item}
use Rattle.ver_ast.specs.declared.tree.Item.TheVariants as item
use Rattle.ver_ast.specs.declared.tree.Net.{Net}
use Rattle.ver_ast.specs.declared.tree.Array.{Array}
use Rattle.ver_ast.specs.declared.tree.Assign.{Assign}
use Rattle.ver_ast.specs.declared.tree.Rhs.{Rhs}
use Rattle.ver_ast.specs.declared.tree.Rhs.TheVariants as rhs
use Rattle.ver_ast.specs.AtomForms.{constant_number}
use Rattle.ver_ast.specs.Atoms.{net, constant}
use Rattle.ver_ast.specs.Names.{rhs_atoms, rhs_names}
use Rattle.ver_ast.specs.ItemNames.{rhs_arrays}
use Rattle.ver_ast.specs.Spells.{AreVerilogNames, HasItemNames}
use Rattle.ver_ast.specs.Valid.{Valid, IsResetting, IsClockSide}
use Rattle.ver_ast.specs.Nets.{Variable, port_nets, item_net, nets, item_array, arrays, item_assign, item_clock_assign, output_clocks, item_block, plain_block, resetting_block, writing_block}
use Rattle.ver_ast.specs.Tokens.{VToken, word, digit_zero, number, sign}
use Rattle.ver_ast.specs.working.TokenSteps.{between}
use Rattle.ver_ast.specs.Grammar.{range_tokens, rhs_tokens, item_tokens}
use Rattle.ver_ast.proofs.Nets.{reg_is_net}
use Rattle.ver_emit.specs.Layout.{range_text, rhs_text, item_text}
use Rattle.ver_emit.proofs.Grouping.{four_joined, six_joined}
use Rattle.ver_emit.proofs.ReadText.{Reads, moved}
use Rattle.ver_emit.proofs.Fixed.{run, fixed_spelled}
use Rattle.ver_emit.proofs.Words.{word_spelled}
use Rattle.ver_emit.proofs.Numbers.{number_spelled}
use Rattle.ver_emit.proofs.Ranges.{range_spelled}
use Rattle.ver_emit.proofs.Operands.{IsSpelled, name_spelled, operand_spelled, operands_spelled}
use Rattle.ver_emit.proofs.Sides.{rhs_spelled}
use Rattle.ver_emit.proofs.Blocks.{always_spelled, resetting_spelled, writing_spelled}

-- the line of a net behind the word that declares it
net_spelled : (front declarer : List ℕ) (n : Net) (rest : List ℕ) (ts : List VToken) → run between front ≡ Some (word declarer ∷ [], between)
    → (1 ≤ n.width) × (n.width ≤ 128) → IsName n.name → Reads rest ts
    → Reads ((front ++ range_text n.width ++ n.name ++ codes ";\n") ++ rest) ((word declarer ∷ range_tokens n.width ++ word n.name ∷ sign 59 ∷ []) ++ ts)
net_spelled front declarer n rest ts read narrow named e =
    let name = word_spelled n.name _ _ named.spelled refl (fixed_spelled (codes ";\n") rest _ ts refl refl e) in
    let range = range_spelled n.width _ _ narrow.0 narrow.1 name in
    let same : word declarer ∷ (range_tokens n.width ++ word n.name ∷ sign 59 ∷ ts) ≡ (word declarer ∷ range_tokens n.width ++ word n.name ∷ sign 59 ∷ []) ++ ts =
    simp append_assoc in
    moved _ _ _ _ (four_joined front (range_text n.width) n.name (codes ";\n") rest) (fixed_spelled front _ _ _ read refl range) same

-- the line of an array
array_spelled : (a : Array) (rest : List ℕ) (ts : List VToken) → (1 ≤ a.width) × (a.width ≤ 128) → a.last ≤ 4294967294 → IsName a.name → Reads rest ts
    → Reads (item_text (item.Array a) ++ rest) (item_tokens (item.Array a) ++ ts)
array_spelled a rest ts narrow few named e =
    let last = number_spelled a.last 93 _ _ few refl refl (fixed_spelled (codes "];\n") rest _ ts refl refl e) in
    let name = word_spelled a.name _ _ named.spelled refl (fixed_spelled (codes " [0:") _ _ _ refl refl last) in
    let range = range_spelled a.width _ _ narrow.0 narrow.1 name in
    let grouped = six_joined (codes "  reg ") (range_text a.width) a.name (codes " [0:") (decimal a.last) (codes "];\n") rest in
    let same : word (codes "reg") ∷ (range_tokens a.width ++ word a.name ∷ sign 91 ∷ digit_zero ∷ sign 58 ∷ number a.last ∷ sign 93 ∷ sign 59 ∷ ts)
    ≡ item_tokens (item.Array a) ++ ts = simp append_assoc in
    moved _ _ _ _ grouped (fixed_spelled (codes "  reg ") _ _ _ refl refl range) same

-- the line of an assignment
assign_spelled : (a : Assign) (rest : List ℕ) (ts : List VToken) → AllByRecursion IsSpelled (rhs_atoms a.rhs) → HasItemNames (item.Assign a)
    → Reads rest ts → Reads (item_text (item.Assign a) ++ rest) (item_tokens (item.Assign a) ++ ts)
assign_spelled a rest ts operands named e =
    let names = named.1 in
    let right = rhs_spelled a.rhs _ _ (all_left IsName (rhs_arrays a.rhs) (rhs_names a.rhs) names.1) operands refl (fixed_spelled (codes ";\n") rest _ ts refl refl e) in
    let target = word_spelled a.target _ _ names.0.spelled refl (fixed_spelled (codes " = ") _ _ _ refl refl right) in
    let grouped : item_text (item.Assign a) ++ rest ≡ codes "  assign " ++ (a.target ++ (codes " = " ++ (rhs_text a.rhs ++ (codes ";\n" ++ rest)))) =
    simp append_assoc in
    let same : word (codes "assign") ∷ word a.target ∷ sign 61 ∷ (rhs_tokens a.rhs ++ sign 59 ∷ ts) ≡ item_tokens (item.Assign a) ++ ts =
    simp append_assoc in
    moved _ _ _ _ grouped (fixed_spelled (codes "  assign ") _ _ _ refl refl target) same

-- no depth is larger than the sum of all
depth_within : (ks : List Variable) (k : Variable) → In ks k → k.depth ≤ sum_by (λ k. k.depth) ks
depth_within [] k m = absurd m
depth_within (q ∷ qs) k (inl e) =
    let here : q.depth ≤ sum_by (λ (k : Variable). k.depth) (q ∷ qs) = rw sum_by-cons (omega arith) in
    subst (λ (p : Variable). p.depth ≤ sum_by (λ (k : Variable). k.depth) (q ∷ qs)) e here
depth_within (q ∷ qs) k (inr m) = let later = depth_within qs k m in rw sum_by-cons (omega (arith, later))

module _ (v : Verilog) (valid : Valid v) where
  declared_narrow : (i : Item) (n : List ℕ) (w : ℕ) → In v.items i → In (item_net i) (n, w) → (1 ≤ w) × (w ≤ 128)
  declared_narrow i n w m o = valid.narrow n w (in_right (port_nets v) (flat_map item_net v.items) (n, w) (in_flat_map item_net v.items i (n, w) m o))

  -- a constant of a sound block
  value_spelled : (w x : ℕ) → 1 ≤ w → w ≤ 128 → x < 2 ^ w → IsSpelled (constant w x)
  value_spelled w x low high fits =
      operand_spelled (nets v) (constant w x) valid.narrow (record { sound = (low, high, fits); shallow = omega arith }) tt

  -- what a clock output shows
  clock_side_spelled : (r : Rhs) → IsClockSide v r → AreVerilogNames (rhs_names r) → AllByRecursion IsSpelled (rhs_atoms r)
  clock_side_spelled (rhs.Atom (net n)) h named = (name_spelled n named.0, tt)
  clock_side_spelled (rhs.Atom (constant w x)) h named =
      let bit : w ≡ 1 = h.0 in
      let low : 1 ≤ w = omega (arith, bit) in
      let fits : x < 2 ^ w = rw (h.0, h.1) (omega arith) in
      (value_spelled w x low (omega (arith, bit)) fits, tt)
  clock_side_spelled r h named = absurd h

  -- the operands of the right side of any assign
  assign_operands : (a : Assign) → In v.items (item.Assign a) → AreVerilogNames (rhs_names a.rhs) → AllByRecursion IsSpelled (rhs_atoms a.rhs)
  assign_operands a m named = by (is_among (output_clocks v) a.target) refl
    where
      by : (b : Bool) → is_among (output_clocks v) a.target ≡ b → AllByRecursion IsSpelled (rhs_atoms a.rhs)
      by true e =
          let here : In (item_clock_assign (output_clocks v) (item.Assign a)) a = rw e (inl refl) in
          clock_side_spelled a.rhs (valid.clock_sides a (in_flat_map (item_clock_assign (output_clocks v)) v.items (item.Assign a) a m here)) named
      by false e =
          let here : In (item_assign (output_clocks v) (item.Assign a)) a = rw e (inl refl) in
          let sound = valid.sound_assigns a (in_flat_map (item_assign (output_clocks v)) v.items (item.Assign a) a m here) in
          operands_spelled (nets v) (rhs_atoms a.rhs) valid.narrow sound.2.operands named

  item_spelled : (i : Item) (rest : List ℕ) (ts : List VToken) → In v.items i → HasItemNames i → Reads rest ts
      → Reads (item_text i ++ rest) (item_tokens i ++ ts)
  item_spelled (item.Wire n) rest ts m named e =
      net_spelled (codes "  wire ") (codes "wire") n rest ts refl (declared_narrow (item.Wire n) n.name n.width m (inl refl)) named.0.0 e
  item_spelled (item.Reg n) rest ts m named e =
      net_spelled (codes "  reg ") (codes "reg") n rest ts refl (declared_narrow (item.Reg n) n.name n.width m (inl refl)) named.0.0 e
  item_spelled (item.Array a) rest ts m named e =
      let k : Variable = record { name = a.name; width = a.width; depth = a.last + 1 } in
      let declared : In (arrays v) k = in_flat_map item_array v.items (item.Array a) k m (inl refl) in
      let within = depth_within (arrays v) k declared in
      array_spelled a rest ts (valid.narrow_words k declared) (omega (arith, within, valid.few_words)) named.0.0 e
  item_spelled (item.Assign a) rest ts m named e =
      assign_spelled a rest ts (assign_operands a m (all_right IsName (rhs_arrays a.rhs) (rhs_names a.rhs) named.1.1)) named e
  item_spelled (item.Always b) rest ts m named e =
      always_spelled v valid.narrow b rest ts
      (valid.sound_blocks (plain_block b) (in_flat_map item_block v.items (item.Always b) (plain_block b) m (inl refl))) named e
  item_spelled (item.Resetting b) rest ts m named e =
      let sound : IsResetting v b = valid.sound_blocks (resetting_block b) (in_flat_map item_block v.items (item.Resetting b) (resetting_block b) m (inl refl)) in
      let narrow = valid.narrow b.target b.value.width (reg_is_net v (b.target, b.value.width) sound.register) in
      resetting_spelled v valid.narrow b rest ts (value_spelled b.value.width (constant_number b.value) narrow.0 narrow.1 sound.constant_fits) sound named e
  item_spelled (item.Writing b) rest ts m named e =
      let sound = valid.sound_blocks (writing_block b) (in_flat_map item_block v.items (item.Writing b) (writing_block b) m (inl refl)) in
      writing_spelled v valid.narrow b rest ts sound.1 named e

  -- the items before the end of the module
  pub items_spelled : (is : List Item) (rest : List ℕ) (ts : List VToken) → ((i : Item) → In is i → In v.items i) → AllByRecursion HasItemNames is
      → Reads rest ts → Reads (flat_map item_text is ++ rest) (flat_map item_tokens is ++ ts)
  items_spelled [] rest ts within named e = e
  items_spelled (i ∷ is) rest ts within named e =
      let others = items_spelled is rest ts (λ j m. within j (inr m)) named.1 e in
      moved _ _ _ _ (append_assoc (item_text i) (flat_map item_text is) rest) (item_spelled i _ _ (within i (inl refl)) named.0 others)
      (sym (append_assoc (item_tokens i) (flat_map item_tokens is) ts))
