-- Tasks of blocks write what the blocks write.
use Rattle.std.proofs.Common.{◌≡◌, ℕ, zero, suc, ◌-◌, List, [], ◌∷◌, ◌++◌, length, map, cond, true, false, Bool, refl, sym, ap, ◌∙◌, inl, inr, subst, arith}
use Rattle.std.specs.declared.alloc.Global.{Global}
use Rattle.std.specs.Prelude.{Vec, flat_map, Option, Some, None, ◌||◌, ◌==◌, slice_index, slice_get}
use Rattle.std.specs.List.{AllByRecursion}
use Rattle.std.specs.Str.{bytes_eq}
use Rattle.std.proofs.lemmas.List.{map-append, length-map}
use Rattle.fir_base.specs.Lists.{In}
use Rattle.fir_base.specs.Ticks.{Env, rises}
use Rattle.fir_base.proofs.Each.{all_at, all_from}
use Rattle.fir_base.proofs.Members.{in_map, in_right, in_flat_map}
use Rattle.fir_base.proofs.SameNames.{name_same}
use Rattle.fir_base.proofs.Twins.{apart}
use Rattle.ver_ast.specs.declared.tree.Verilog.{Verilog}
use Rattle.ver_ast.specs.declared.tree.Always.{Always}
use Rattle.ver_ast.specs.declared.tree.Edge.{Edge}
use Rattle.ver_ast.specs.declared.tree.Item.{Item}
use Rattle.ver_ast.specs.declared.tree.Resetting.{Resetting}
use Rattle.ver_ast.specs.declared.tree.Write.{Write}
use Rattle.ver_ast.specs.declared.tree.Writing.{Writing}
use Rattle.ver_ast.specs.AtomForms.{constant_number}
use Rattle.ver_ast.specs.Atoms.{AtomTree}
use Rattle.ver_ast.specs.AtomValues.{atom_value}
use Rattle.ver_ast.specs.Nets.{SizedNet, nets, clocks, regs, arrays, Variable, reg_variable, variables, names_of, AlwaysBlock, plain_block, resetting_block, writing_block, item_block}
use Rattle.ver_ast.specs.Next.{Put, write_put, edge_put, edge_rises}
use Rattle.ver_ast.specs.Valid.{Valid, IsSoundBlock, IsPlain, IsResetting, IsEdge, IsWrite, AreWrites}
use Rattle.ver_ast.proofs.Processes.{read_once}
use Rattle.ver_order.specs.working.Laws.{FitNets}
use Rattle.ver_sim.specs.declared.blocks.BlockTask.{BlockTask}
use Rattle.ver_sim.specs.declared.blocks.BlockTask.TheVariants as block
use Rattle.ver_sim.specs.declared.blocks.EdgeTask.{EdgeTask}
use Rattle.ver_sim.specs.declared.blocks.WriteTask.{WriteTask}
use Rattle.ver_sim.specs.declared.tables.Tables.{Tables}
use Rattle.ver_sim.specs.working.Valued.{place_among, valued, env_of}
use Rattle.ver_sim.specs.working.FlatStates.{base_of, depth_of, flat, FlatPut}
use Rattle.ver_sim.specs.working.Operands.{operand_number}
use Rattle.ver_sim.specs.working.Blocks.{edge_puts, some_edge_puts, write_puts, word_put, IsBlockTaskOf, IsEdgeTaskOf, AreEdgeTasks, HasSoundEdge, IsSomeWrite, IsWriteTaskOf}
use Rattle.ver_sim.specs.ClocksShown.{ClocksShown}
use Rattle.ver_sim.specs.working.Pairs.{EachPair, Appends}
use Rattle.ver_sim.specs.working.Tables.{Know}
use Rattle.ver_sim.proofs.KnownNames.{valued_once}
use Rattle.ver_sim.proofs.PairLists.{one_more}
use Rattle.ver_sim.proofs.PlacedNames.{place_is}

-- the number of a clock is its place behind the nets
behind : (xs ys : List (List ℕ)) (i : ℕ) (n : List ℕ) → slice_get (xs ++ ys) i ≡ Some n → (In xs n → ⊥) → slice_get ys (i - length xs) ≡ Some n
behind [] ys i n e none = let same : i - 0 ≡ i = omega arith in ap (slice_get ys) same ∙ e
behind (x ∷ xs) ys zero n e none = absurd (none (inl (let same : x ≡ n = cc in same)))
behind (x ∷ xs) ys (suc i) n e none =
    let less : suc i - suc (length xs) ≡ i - length xs = omega arith in
    ap (slice_get ys) less ∙ behind xs ys i n e (λ m. none (inr m))

pub clock_number : (v : Verilog) (t : Tables) (k : Know v t) (n : List ℕ) (place count less : ℕ) → ((u : Verilog) → Know u t → In (valued u) n → place ≡ place_among (valued u) n)
    → count ≡ length (nets v) → less ≡ place - count → In (clocks v) n → (i : ℕ) → slice_get (valued v) i ≡ Some n → (env : Env) → ClocksShown v env → less ≡ env n
clock_number v t k n place count less tells c l m i e env shown =
    let at : place ≡ i = tells v k (in_right (names_of (nets v)) (clocks v) n m) ∙ place_is (valued v) (valued_once v k.valid) i n e in
    let wide : count ≡ length (names_of (nets v)) =
    c ∙ sym (length-map (nets v) (λ (s : SizedNet). s.0)) in
    let there = behind (names_of (nets v)) (clocks v) i n e (λ o. apart (clocks v) (names_of (nets v)) (read_once v k.valid) n m o) in
    l ∙ ap (λ (x : ℕ). x - count) at ∙ ap (λ (x : ℕ). i - x) wide ∙ sym (shown (i - length (names_of (nets v))) n there)

-- a register has one word
pub one_word : (rs : List SizedNet) (ks : List Variable) (n : List ℕ) → In (names_of rs) n → depth_of (map reg_variable rs ++ ks) n ≡ 1
one_word [] ks n m = absurd m
one_word (r ∷ rs) ks n m = by (bytes_eq r.0 n) refl m (one_word rs ks n)
  where
    by : (b : Bool) → bytes_eq r.0 n ≡ b → In (names_of (r ∷ rs)) n → (In (names_of rs) n → depth_of (map reg_variable rs ++ ks) n ≡ 1)
        → cond b 1 (depth_of (map reg_variable rs ++ ks) n) ≡ 1
    by true e i ih = refl
    by false e (inl s) ih = let no-such : true ≡ false = sym (name_same r.0) ∙ ap (bytes_eq r.0) s ∙ e in absurd (cc)
    by false e (inr i) ih = ih i

module _ (v : Verilog) where
  -- a word of a register, by number and by name
  register_put : (n : List ℕ) (w word x y : ℕ) → In (regs v) (n, w) → word ≡ base_of (variables v) n → x ≡ y
      → word_put word x ≡ flat (variables v) (record { name = n; place = 0; word = y })
  register_put n w word x y m b e =
      let one : depth_of (variables v) n ≡ 1 = one_word (regs v) (arrays v) n (in_map (λ (s : SizedNet). s.0) (regs v) (n, w) m) in
      ap (λ (z : ℕ). word_put z x) b ∙ ap (word_put (base_of (variables v) n)) e
      ∙ ap (λ (d : ℕ). record { base = base_of (variables v) n; depth = d; place = 0; word = y }) (sym one)

  -- what a register takes at an edge
  edge_is : (n : List ℕ) (w word : ℕ) (e : EdgeTask) (clock : List ℕ) (source : AtomTree) → In (regs v) (n, w) → word ≡ base_of (variables v) n → IsEdgeTaskOf v e clock source
      → (named values : List ℕ) → FitNets v (env_of v values) → ClocksShown v (env_of v values)
      → edge_puts named values word e
      ≡ map (flat (variables v)) (cond (rises named (env_of v values clock)) (record { name = n; place = 0; word = atom_value (nets v) (env_of v values) source } ∷ []) [])
  edge_is n w word e clock source m b h named values fit shown =
      let put = register_put n w word (operand_number values e.source) (atom_value (nets v) (env_of v values) source) m b (h.source_is.same values fit) in
      ap (λ (k : ℕ). cond (rises named k) (word_put word (operand_number values e.source) ∷ []) []) (h.clock_is (env_of v values) shown)
      ∙ ap (λ (p : FlatPut). cond (rises named (env_of v values clock)) (p ∷ []) []) put
      ∙ by (rises named (env_of v values clock))
    where
      q : Put
      q = record { name = n; place = 0; word = atom_value (nets v) (env_of v values) source }

      by : (r : Bool) → cond r (flat (variables v) q ∷ []) [] ≡ map (flat (variables v)) (cond r (q ∷ []) [])
      by true = refl
      by false = refl

  pub plain_is : (b : Always) → IsPlain v b → (word : ℕ) (e : EdgeTask) → word ≡ base_of (variables v) b.target → IsEdgeTaskOf v e b.clock b.source
      → IsBlockTaskOf v (block.Plain word e) (plain_block b)
  plain_is b p word e h k =
      record { writes = λ named values fit shown. edge_is b.target p.width word e b.clock b.source p.register h k named values fit shown }

  pub resetting_is : (b : Resetting) → IsResetting v b → (reset value word : ℕ) (o : Option EdgeTask) → reset ≡ place_among (valued v) b.reset
      → value ≡ constant_number b.value → word ≡ base_of (variables v) b.target → AreEdgeTasks v o b.edge → IsBlockTaskOf v (block.Resetting reset value word o) (resetting_block b)
  resetting_is b p reset value word o r c h k = record {
    writes = λ named values fit shown.
        ap (λ (x : ℕ). cond (slice_index values x == 1) (word_put word value ∷ []) (some_edge_puts named values word o)) r
        ∙ by named values fit shown (env_of v values b.reset == 1) o b.edge k;
  }
    where
      x : Put
      x = record { name = b.target; place = 0; word = constant_number b.value }

      later : (named values : List ℕ) (c : Option Edge) → List Put
      later named values c = cond (edge_rises named (env_of v values) c) (edge_put (nets v) (env_of v values) b.target c) []

      edges : (named values : List ℕ) → FitNets v (env_of v values) → ClocksShown v (env_of v values) → (o : Option EdgeTask) (c : Option Edge) → AreEdgeTasks v o c
          → some_edge_puts named values word o ≡ map (flat (variables v)) (later named values c)
      edges named values fit shown None None k = refl
      edges named values fit shown None (Some c) k = absurd k
      edges named values fit shown (Some e) None k = absurd k
      edges named values fit shown (Some e) (Some c) k = edge_is b.target b.value.width word e c.clock c.source p.register h k named values fit shown

      by : (named values : List ℕ) → FitNets v (env_of v values) → ClocksShown v (env_of v values) → (q : Bool) (o : Option EdgeTask) (c : Option Edge) → AreEdgeTasks v o c
          → cond q (word_put word value ∷ []) (some_edge_puts named values word o)
          ≡ map (flat (variables v)) (cond (q || edge_rises named (env_of v values) c) (cond q (x ∷ []) (edge_put (nets v) (env_of v values) b.target c)) [])
      by named values fit shown true o e k = ap (λ (p : FlatPut). p ∷ []) (register_put b.target b.value.width word value (constant_number b.value) p.register h c)
      by named values fit shown false o e k = edges named values fit shown o e k

  -- a write
  write_is : (t : WriteTask) (w : Write) → IsWriteTaskOf v t w → (values : List ℕ) → FitNets v (env_of v values)
      → write_puts values t ≡ map (flat (variables v)) (write_put (nets v) (env_of v values) w)
  write_is t w h values fit =
      ap (λ (x : ℕ). cond (x == 1) (record { base = t.base; depth = t.depth; place = operand_number values t.index; word = operand_number values t.source } ∷ []) []) (h.condition_is.same values fit)
      ∙ ap (λ (p : FlatPut). cond (atom_value (nets v) (env_of v values) w.condition == 1) (p ∷ []) [])
      (ap (λ (x : ℕ). record { base = x; depth = t.depth; place = operand_number values t.index; word = operand_number values t.source }) h.base_is
      ∙ ap (λ (x : ℕ). record { base = base_of (variables v) w.array; depth = x; place = operand_number values t.index; word = operand_number values t.source }) h.depth_is
      ∙ ap (λ (x : ℕ). record { base = base_of (variables v) w.array; depth = depth_of (variables v) w.array; place = x; word = operand_number values t.source }) (h.index_is.same values fit)
      ∙ ap (λ (x : ℕ). record { base = base_of (variables v) w.array; depth = depth_of (variables v) w.array; place = atom_value (nets v) (env_of v values) w.index; word = x }) (h.source_is.same values fit))
      ∙ by (atom_value (nets v) (env_of v values) w.condition == 1)
    where
      q : Put
      q = record { name = w.array; place = atom_value (nets v) (env_of v values) w.index; word = atom_value (nets v) (env_of v values) w.source }

      by : (b : Bool) → cond b (flat (variables v) q ∷ []) [] ≡ map (flat (variables v)) (cond b (q ∷ []) [])
      by true = refl
      by false = refl

  writes_are : (ts : List WriteTask) (ws : List Write) → EachPair (IsWriteTaskOf v) ts ws → (values : List ℕ) → FitNets v (env_of v values)
      → flat_map (write_puts values) ts ≡ map (flat (variables v)) (flat_map (write_put (nets v) (env_of v values)) ws)
  writes_are [] [] h values fit = refl
  writes_are [] (w ∷ ws) h values fit = absurd h
  writes_are (t ∷ ts) [] h values fit = absurd h
  writes_are (t ∷ ts) (w ∷ ws) h values fit =
      rw (write_is t w h.0 values fit, writes_are ts ws h.1 values fit)
      (sym (map-append (flat (variables v)) (write_put (nets v) (env_of v values) w) (flat_map (write_put (nets v) (env_of v values)) ws)))

  pub writing_is : (b : Writing) (clock : ℕ) (writes : Vec WriteTask Global) → ((env : Env) → ClocksShown v env → clock ≡ env b.clock) → EachPair (IsWriteTaskOf v) writes.items b.writes
      → IsBlockTaskOf v (block.Writing clock writes) (writing_block b)
  writing_is b clock writes c h = record {
    writes = λ named values fit shown.
        ap (λ (k : ℕ). cond (rises named k) (flat_map (write_puts values) writes.items) []) (c (env_of v values) shown)
        ∙ ap (λ (ps : List FlatPut). cond (rises named (env_of v values b.clock)) ps []) (writes_are writes.items b.writes h values fit)
        ∙ by (rises named (env_of v values b.clock)) (flat_map (write_put (nets v) (env_of v values)) b.writes);
  }
    where
      by : (r : Bool) (ps : List Put) → cond r (map (flat (variables v)) ps) [] ≡ map (flat (variables v)) (cond r ps [])
      by true ps = refl
      by false ps = refl

-- what valid blocks have
pub sound_edge : (v : Verilog) (n : List ℕ) (w : ℕ) (o : Option Edge) → IsEdge v n w o → HasSoundEdge v o
sound_edge v n w None h = tt
sound_edge v n w (Some e) h = (h.0, h.2.operand.sound)

pub some_writes : (v : Verilog) (ws : List Write) → AreWrites v ws → AllByRecursion (IsSomeWrite v) ws
some_writes v [] h = tt
some_writes v (w ∷ ws) h =
    all_from (IsSomeWrite v) (w ∷ ws) (λ u m. let one = all_at (IsWrite v w.array) (w ∷ ws) h u m in subst (λ (n : List ℕ). IsWrite v n u) (sym one.one_array) one)

pub block_known : (v : Verilog) (i : Item) (b : AlwaysBlock) → In v.items i → item_block i ≡ b ∷ [] → Valid v → IsSoundBlock v b
block_known v i b m e valid =
    valid.sound_blocks b (in_flat_map item_block v.items i b m (subst (λ (xs : List AlwaysBlock). In xs b) (sym e) (inl refl)))

pub block_put : (v : Verilog) (i : Item) (b : AlwaysBlock) (t : BlockTask) (old new : List BlockTask) → item_block i ≡ b ∷ [] → new ≡ old ++ t ∷ [] → IsBlockTaskOf v t b
    → Appends (IsBlockTaskOf v) old new (item_block i)
block_put v i b t old new e n h = subst (Appends (IsBlockTaskOf v) old new) (sym e) (one_more (IsBlockTaskOf v) old new t b n h)
