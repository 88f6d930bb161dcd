-- What blocks write hangs on the values of nets and clocks alone.
use Rattle.std.proofs.Common.{◌≡◌, ℕ, ◌≤◌, List, [], ◌∷◌, ◌++◌, Bool, cond, refl, ap, ◌∙◌, inl, inr, ⊎_elim, subst, arith}
use Rattle.std.specs.Prelude.{flat_map, filter, Option, Some, None, ◌==◌, ◌||◌, if◌then◌else◌}
use Rattle.std.specs.List.{AllByRecursion}
use Rattle.fir_base.specs.Lists.{In}
use Rattle.fir_base.specs.Ticks.{Env, Tick, rises}
use Rattle.fir_base.proofs.Members.{in_either}
use Rattle.ver_ast.specs.declared.tree.Verilog.{Verilog}
use Rattle.ver_ast.specs.declared.tree.Edge.{Edge}
use Rattle.ver_ast.specs.declared.tree.Write.{Write}
use Rattle.ver_ast.specs.Atoms.{AtomTree, net, constant, bit_select, part_select, concat, repeat, AtomTrees, no_atoms, atom_before}
use Rattle.ver_ast.specs.AtomForms.{constant_number}
use Rattle.ver_ast.specs.AtomValues.{atom_value}
use Rattle.ver_ast.specs.Names.{atom_names, joined_names}
use Rattle.ver_ast.specs.SoundSides.{IsSound, AreSound}
use Rattle.ver_ast.specs.Nets.{SizedNet, width_among, clocks, nets, AlwaysBlock, plain_block, resetting_block, writing_block, blocks}
use Rattle.ver_ast.specs.Valid.{Valid, IsSoundBlock, IsWrite, AreWrites, IsEdge}
use Rattle.ver_ast.specs.Next.{Put, puts, edge_put, write_put, acts, edge_rises, acting, all_puts, v_next}
use Rattle.ver_ast.proofs.Chosen.{chosen}
use Rattle.ver_ast.proofs.Values.{same_atom}
use Rattle.ver_ast.proofs.NextFits.{width_there}

-- the names of a sound operand have widths
mutual
  sound_names : (ns : List SizedNet) (a : AtomTree) → IsSound ns a → (n : List ℕ) → In (atom_names a) n → 1 ≤ width_among ns n
  sound_names ns (net m) s n (inl e) = subst (λ (k : List ℕ). 1 ≤ width_among ns k) e s
  sound_names ns (net m) s n (inr i) = absurd i
  sound_names ns (constant width value) s n i = absurd i
  sound_names ns (bit_select m j) s n (inl e) = subst (λ (k : List ℕ). 1 ≤ width_among ns k) e (omega (arith, s.0))
  sound_names ns (bit_select m j) s n (inr i) = absurd i
  sound_names ns (part_select m hi lo) s n (inl e) = subst (λ (k : List ℕ). 1 ≤ width_among ns k) e (omega (arith, s.0))
  sound_names ns (part_select m hi lo) s n (inr i) = absurd i
  sound_names ns (concat a more) s n i =
      ⊎_elim (λ (o : In (atom_names a) n). sound_names ns a s.0 n o) (λ (o : In (joined_names more) n). sound_joined ns more s.1 n o)
      (in_either (atom_names a) (joined_names more) n i)
  sound_names ns (repeat count a) s n i = sound_names ns a s.0 n i

  sound_joined : (ns : List SizedNet) (more : AtomTrees) → AreSound ns more → (n : List ℕ) → In (joined_names more) n → 1 ≤ width_among ns n
  sound_joined ns no_atoms s n i = absurd i
  sound_joined ns (atom_before a more) s n i =
      ⊎_elim (λ (o : In (atom_names a) n). sound_names ns a s.0 n o) (λ (o : In (joined_names more) n). sound_joined ns more s.1 n o)
      (in_either (atom_names a) (joined_names more) n i)

filter_same : {A : Type 0} → (f g : A → Bool) (xs : List A) → ((x : A) → In xs x → f x ≡ g x) → filter f xs ≡ filter g xs
filter_same f g [] h = refl
filter_same f g (x ∷ xs) h =
    ap (λ (b : Bool). cond b (x ∷ filter f xs) (filter f xs)) (h x (inl refl))
    ∙ ap (λ ys. cond (g x) (x ∷ ys) ys) (filter_same f g xs (λ y m. h y (inr m)))

flat_same : {A B : Type 0} → (f g : A → List B) (xs : List A) → ((x : A) → In xs x → f x ≡ g x) → flat_map f xs ≡ flat_map g xs
flat_same f g [] h = refl
flat_same f g (x ∷ xs) h = ap (λ ys. ys ++ flat_map f xs) (h x (inl refl)) ∙ ap (λ ys. g x ++ ys) (flat_same f g xs (λ y m. h y (inr m)))

-- the state after all writes, as a function of them
next_by : (v : Verilog) (state : List ℕ) (tick : Tick) (e f : Env) → all_puts v tick e ≡ all_puts v tick f → v_next v state tick e ≡ v_next v state tick f
next_by v state tick e f h = rw h refl

module _ (v : Verilog) (valid : Valid v) (e f : Env) (on_nets : (n : List ℕ) (w : ℕ) → In (nets v) (n, w) → e n ≡ f n)
    (on_clocks : (n : List ℕ) → In (clocks v) n → e n ≡ f n) where
  same_operand : (w : ℕ) (a : AtomTree) → IsSound (nets v) a → atom_value (nets v) e a ≡ atom_value (nets v) f a
  same_operand w a s =
      same_atom (nets v) e f a
      (record { each = λ n i. on_nets n (width_among (nets v) n) (width_there (nets v) n (sound_names (nets v) a s n i)) })

  same_write : (name : List ℕ) (w : Write) → IsWrite v name w → write_put (nets v) e w ≡ write_put (nets v) f w
  same_write name w s =
      let condition = same_operand 1 w.condition s.condition_wide.operand.sound in
      let index = same_operand 1 w.index s.index_sound.sound in
      let source = same_operand 1 w.source s.source_wide.operand.sound in
      rw (condition, index, source) refl

  same_edge : (name : List ℕ) (w : ℕ) (o : Option Edge) → IsEdge v name w o → edge_put (nets v) e name o ≡ edge_put (nets v) f name o
  same_edge name w None h = refl
  same_edge name w (Some o) h = let source = same_operand w o.source h.2.operand.sound in rw source refl

  same_puts_of : (b : AlwaysBlock) → IsSoundBlock v b → puts (nets v) e b ≡ puts (nets v) f b
  same_puts_of (plain_block b) h = let source = same_operand 1 b.source h.wide.operand.sound in rw source refl
  same_puts_of (resetting_block b) h =
      let reset = on_nets b.reset 1 h.bit in
      let edge = same_edge b.target b.value.width b.edge h.clocked in
      ap (λ (x : ℕ). if x == 1 then (record { name = b.target; place = 0; word = constant_number b.value } ∷ []) else edge_put (nets v) e b.target b.edge) reset
      ∙ ap (λ (ps : List Put). if f b.reset == 1 then (record { name = b.target; place = 0; word = constant_number b.value } ∷ []) else ps) edge
  same_puts_of (writing_block b) h = flat_same (write_put (nets v) e) (write_put (nets v) f) b.writes (each b.writes h.1)
    where
      at : (name : List ℕ) (us : List Write) → AllByRecursion (IsWrite v name) us → (u : Write) → In us u → write_put (nets v) e u ≡ write_put (nets v) f u
      at name [] k u i = absurd i
      at name (w ∷ ws) k u (inl p) = subst (λ (z : Write). write_put (nets v) e z ≡ write_put (nets v) f z) p (same_write name w k.0)
      at name (w ∷ ws) k u (inr i) = at name ws k.1 u i

      each : (us : List Write) → AreWrites v us → (u : Write) → In us u → write_put (nets v) e u ≡ write_put (nets v) f u
      each [] k u i = absurd i
      each (w ∷ ws) k u i = at w.array (w ∷ ws) k u i

  same_rise : (named name : List ℕ) (w : ℕ) (o : Option Edge) → IsEdge v name w o → edge_rises named e o ≡ edge_rises named f o
  same_rise named name w None h = refl
  same_rise named name w (Some o) h = ap (rises named) (on_clocks o.clock h.0)

  same_acts : (named : List ℕ) (b : AlwaysBlock) → IsSoundBlock v b → acts named e b ≡ acts named f b
  same_acts named (plain_block b) h = ap (rises named) (on_clocks b.clock h.clocked)
  same_acts named (resetting_block b) h =
      ap (λ (x : ℕ). x == 1 || edge_rises named e b.edge) (on_nets b.reset 1 h.bit) ∙ ap (λ (c : Bool). f b.reset == 1 || c) (same_rise named b.target b.value.width b.edge h.clocked)
  same_acts named (writing_block b) h = ap (rises named) (on_clocks b.clock h.0)

  same_all : (tick : Tick) → all_puts v tick e ≡ all_puts v tick f
  same_all tick =
      ap (flat_map (puts (nets v) e)) (filter_same (acts tick.clocks e) (acts tick.clocks f) (blocks v) (λ b m. same_acts tick.clocks b (valid.sound_blocks b m)))
      ∙ flat_same (puts (nets v) e) (puts (nets v) f) (acting v tick f)
      (λ b m. same_puts_of b (valid.sound_blocks b (chosen (acts tick.clocks f) (blocks v) b m).0))

  pub same_next : (state : List ℕ) (tick : Tick) → v_next v state tick e ≡ v_next v state tick f
  same_next state tick = next_by v state tick e f (same_all tick)
