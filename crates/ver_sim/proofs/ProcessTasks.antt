-- Tasks are those of their processes.
use Rattle.std.proofs.Common.{◌≡◌, ℕ, ◌≤◌, List, [], ◌∷◌, ◌++◌, map, cond, false, Bool, refl, sym, ap, ◌∙◌, inl, subst, arith}
use Rattle.std.specs.Prelude.{flat_map, Some, ◌==◌, slice_index, unwrap_or}
use Rattle.fir_base.specs.Lists.{In}
use Rattle.fir_base.specs.Ticks.{FitEach}
use Rattle.fir_base.specs.Words.{is_among}
use Rattle.fir_base.proofs.Members.{in_map, in_left, in_right, in_flat_map}
use Rattle.ver_ast.specs.declared.tree.Verilog.{Verilog}
use Rattle.ver_ast.specs.declared.tree.Assign.{Assign}
use Rattle.ver_ast.specs.declared.tree.Resetting.{Resetting}
use Rattle.ver_ast.specs.declared.tree.SignedOp.{SignedOp}
use Rattle.ver_ast.specs.declared.tree.SignedOp.TheVariants as signed
use Rattle.ver_ast.specs.declared.tree.Item.{Item}
use Rattle.ver_ast.specs.declared.tree.Item.TheVariants as item
use Rattle.ver_ast.specs.AtomForms.{constant_number}
use Rattle.ver_ast.specs.Nets.{SizedNet, nets, regs, arrays, Variable, reg_variable, variables, variable_names, names_of, assigns, resets, item_assign, item_block, block_reset, output_clocks, shape}
use Rattle.ver_ast.specs.Processes.{Process, assigning, showing, processes, wanted}
use Rattle.ver_ast.specs.SideValues.{rhs_value}
use Rattle.ver_ast.specs.SoundSides.{IsSoundSide, KeepsRule, signed_rule}
use Rattle.ver_ast.specs.Stores.{store_of}
use Rattle.ver_ast.proofs.Nets.{reg_is_net}
use Rattle.ver_ast.proofs.Processes.{width_is, is_resetting}
use Rattle.ver_order.specs.working.Laws.{FitNets}
use Rattle.ver_sim.specs.declared.declarations.Span.{Span}
use Rattle.ver_sim.specs.declared.tables.Tables.{Tables}
use Rattle.ver_sim.specs.declared.task.Task.{Task}
use Rattle.ver_sim.specs.declared.work.Work.{Work}
use Rattle.ver_sim.specs.declared.work.Work.TheVariants as work
use Rattle.ver_sim.specs.working.Valued.{env_of}
use Rattle.ver_sim.specs.working.FlatStates.{base_of, depth_of}
use Rattle.ver_sim.specs.working.Pairs.{EachPair, Appends}
use Rattle.ver_sim.specs.working.Tables.{Know}
use Rattle.ver_sim.specs.working.Tasks.{IsTaskOf, AreTasks}
use Rattle.ver_sim.specs.working.Works.{work_number}
use Rattle.ver_sim.specs.working.WorksOf.{IsWorkOf}
use Rattle.ver_sim.proofs.KnownNames.{net_is_valued}
use Rattle.ver_sim.proofs.PairLists.{one_more, pairs_long, pair_at, list_parts}
use Rattle.ver_sim.proofs.ReadForms.{TellsPlace, TellsWidth, fitting_number}
use Rattle.ver_sim.proofs.ReadPlaces.{place_of_one}
use Rattle.ver_sim.proofs.ShowingWords.{reg_word}

-- signed operands have one width
pub alike : (op : SignedOp) (w u v : ℕ) → KeepsRule (signed_rule op) w u v → u ≡ v
alike signed.Div w u v h = h.0 ∙ sym h.1
alike signed.Rem w u v h = h.0 ∙ sym h.1
alike signed.Lt w u v h = h.1
alike signed.Leq w u v h = h.1
alike signed.Gt w u v h = h.1
alike signed.Geq w u v h = h.1

-- a word's array is one of the names that have words
pub array_named : (v : Verilog) (k : Variable) → In (arrays v) k → (m : List ℕ) → k.name ≡ m → In (variable_names (variables v)) m
array_named v k i m e =
    subst (In (variable_names (variables v))) e (in_map (λ (j : Variable). j.name) (variables v) k (in_right (map reg_variable (regs v)) (arrays v) k i))

pub register_named : (v : Verilog) (n : List ℕ) (w : ℕ) → In (regs v) (n, w) → In (variable_names (variables v)) n
register_named v n w i =
    in_map (λ (j : Variable). j.name) (variables v) (reg_variable (n, w))
    (in_left (map reg_variable (regs v)) (arrays v) (reg_variable (n, w)) (in_map reg_variable (regs v) (n, w) i))

-- what is told of the words of a name
abbrev pub TellsSpan : Tables → List ℕ → Span → Type 0
TellsSpan t n span = (v : Verilog) → Know v t → In (variable_names (variables v)) n → span ≡ record { base = base_of (variables v) n; depth = depth_of (variables v) n }

module _ (v : Verilog) (t : Tables) (k : Know v t) where
  net_named : (n : List ℕ) (w : ℕ) → In (nets v) (n, w) → In (names_of (nets v)) n
  net_named n w m = in_map (λ (s : SizedNet). s.0) (nets v) (n, w) m

  -- the work beside the width of the target
  assign_work : (a : Assign) → In (assigns v) a → (width : ℕ) (w : Work) → TellsWidth t a.target width
      → ((u : Verilog) → Know u t → width ≤ 128 → IsSoundSide (nets u) (arrays u) width a.rhs → IsWorkOf u w width a.rhs) → IsWorkOf v w width a.rhs
  assign_work a m width w tells_width h =
      let s = k.valid.sound_assigns a m in
      let same : width ≡ s.0 = tells_width v k (net_named a.target s.0 s.1) ∙ width_is v k.valid a.target s.0 s.1 in
      h v k (omega (arith, same, (k.valid.narrow a.target s.0 s.1).1)) (subst (λ (x : ℕ). IsSoundSide (nets v) (arrays v) x a.rhs) (sym same) s.2)

  pub assign_computes : (a : Assign) → In (assigns v) a → (width : ℕ) (w : Work) → TellsWidth t a.target width
      → ((u : Verilog) → Know u t → width ≤ 128 → IsSoundSide (nets u) (arrays u) width a.rhs → IsWorkOf u w width a.rhs)
      → (state values : List ℕ) → FitEach (shape v).state state → FitNets v (env_of v values)
      → work_number w state values ≡ wanted v (store_of (variables v) state) (env_of v values) (assigning a)
  assign_computes a m width w tells_width h state values sf fit =
      let s = k.valid.sound_assigns a m in
      (assign_work a m width w tells_width h).same state values sf fit
      ∙ ap (λ (x : ℕ). rhs_value (nets v) (store_of (variables v) state) (env_of v values) x a.rhs) (tells_width v k (net_named a.target s.0 s.1))

  pub assign_is : (a : Assign) → In (assigns v) a → (place width : ℕ) (w : Work) → TellsPlace t a.target place → TellsWidth t a.target width
      → ((u : Verilog) → Know u t → width ≤ 128 → IsSoundSide (nets u) (arrays u) width a.rhs → IsWorkOf u w width a.rhs)
      → IsTaskOf v (record { target = place; work = w }) (assigning a)
  assign_is a m place width w tells_place tells_width h =
      let s = k.valid.sound_assigns a m in
      record {
        targets = tells_place v k (net_is_valued v a.target (net_named a.target s.0 s.1));
        computes = λ state values sf fit. assign_computes a m width w tells_width h state values sf fit;
        reads = (assign_work a m width w tells_width h).reads;
      }

  pub reset_is : (b : Resetting) → In (resets v) b → (target reset value : ℕ) (span : Span) → TellsPlace t b.target target → TellsPlace t b.reset reset
      → value ≡ unwrap_or b.value.number 0 → TellsSpan t b.target span → IsTaskOf v (record { target = target; work = work.Reset reset value span.base }) (showing b)
  reset_is b m target reset value span tells_target tells_reset e tells_span =
      let r = is_resetting v k.valid b m in
      let net : In (names_of (nets v)) b.target = net_named b.target b.value.width (reg_is_net v (b.target, b.value.width) r.register) in
      let place = tells_reset v k (net_is_valued v b.reset (net_named b.reset 1 r.bit)) in
      let narrow = (k.valid.narrow b.target b.value.width (reg_is_net v (b.target, b.value.width) r.register)).1 in
      let number : value ≡ constant_number b.value = e ∙ fitting_number b.value.number b.value.width narrow r.constant_fits in
      let base : span.base ≡ base_of (variables v) b.target = ap (λ (s : Span). s.base) (tells_span v k (register_named v b.target b.value.width r.register)) in
      let reg : In (names_of (regs v)) b.target = in_map (λ (s : SizedNet). s.0) (regs v) (b.target, b.value.width) r.register in
      record {
        targets = tells_target v k (net_is_valued v b.target net);
        computes = λ state values sf fit.
            ap (λ (x : ℕ). Some (cond (slice_index values x == 1) value (slice_index state span.base))) place
            ∙ ap (λ (x : ℕ). Some (cond (env_of v values b.reset == 1) x (slice_index state span.base))) number
            ∙ ap (λ (x : ℕ). Some (cond (env_of v values b.reset == 1) (constant_number b.value) (slice_index state x))) base
            ∙ ap (λ (x : ℕ). Some (cond (env_of v values b.reset == 1) (constant_number b.value) x)) (sym (reg_word v state b.target reg));
        reads = λ q i. place_of_one v q b.reset (subst (λ (x : ℕ). In (x ∷ []) q) place i);
      }

-- the assign of a net is appended
pub assign_put : (v : Verilog) (i : Item) (a : Assign) (t : Task) (old new : List Task) → i ≡ item.Assign a → is_among (output_clocks v) a.target ≡ false → In v.items i
    → (In (assigns v) a → IsTaskOf v t (assigning a)) → new ≡ old ++ t ∷ [] → Appends (IsTaskOf v) old new (map assigning (item_assign (output_clocks v) i))
assign_put v i a t old new e f m h n =
    let parts : item_assign (output_clocks v) i ≡ a ∷ [] = ap (item_assign (output_clocks v)) e ∙ ap (λ (b : Bool). cond b [] (a ∷ [])) f in
    let known : In (assigns v) a = in_flat_map (item_assign (output_clocks v)) v.items i a m (subst (λ (xs : List Assign). In xs a) (sym parts) (inl refl)) in
    subst (λ (xs : List Assign). Appends (IsTaskOf v) old new (map assigning xs)) (sym parts) (one_more (IsTaskOf v) old new t (assigning a) n (h known))

-- and so is an asynchronous block
pub reset_put : (v : Verilog) (i : Item) (b : Resetting) (t : Task) (old new : List Task) → i ≡ item.Resetting b → In v.items i
    → (In (resets v) b → IsTaskOf v t (showing b)) → new ≡ old ++ t ∷ [] → Appends (IsTaskOf v) old new (map showing (flat_map block_reset (item_block i)))
reset_put v i b t old new e m h n =
    let parts : flat_map block_reset (item_block i) ≡ b ∷ [] = ap (λ (j : Item). flat_map block_reset (item_block j)) e in
    let known : In (resets v) b = in_resets v i b m parts in
    subst (λ (xs : List Resetting). Appends (IsTaskOf v) old new (map showing xs)) (sym parts) (one_more (IsTaskOf v) old new t (showing b) n (h known))
  where
    in_resets : (v : Verilog) (i : Item) (b : Resetting) → In v.items i → flat_map block_reset (item_block i) ≡ b ∷ [] → In (resets v) b
    in_resets v i b m e = subst (λ (xs : List Resetting). In xs b) (list_parts block_reset item_block v.items)
        (in_flat_map (λ (j : Item). flat_map block_reset (item_block j)) v.items i b m (subst (λ (xs : List Resetting). In xs b) (sym e) (inl refl)))

-- a task for each process, by number
pub tasks_are : (v : Verilog) (ts : List Task) (ps : List Process) → EachPair (IsTaskOf v) ts ps → ps ≡ processes v → AreTasks v ts
tasks_are v ts ps h e =
    let all = subst (EachPair (IsTaskOf v) ts) e h in
    record { as_many = pairs_long (IsTaskOf v) ts (processes v) all; each = λ k t p f g. pair_at (IsTaskOf v) ts (processes v) all k t p f g }
