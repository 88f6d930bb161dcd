-- The next state has the tree's shape: what is written fits.
use Rattle.std.proofs.Common.{◌≡◌, ℕ, zero, suc, ◌^◌, ◌<◌, ◌≤◌, List, [], ◌∷◌, ◌++◌, length, map, take, drop, set, cond, true, false, Bool, refl, sym, ap, ◌∙◌, inl, inr, ⊎_elim, subst, arith, length-set}
use Rattle.std.specs.Prelude.{flat_map, replicate, slice_set, Option, Some, None, ◌==◌}
use Rattle.std.specs.List.{AllByRecursion}
use Rattle.std.specs.Str.{bytes_eq}
use Rattle.std.proofs.lemmas.Bool.{cond_both}
use Rattle.fir_base.specs.Lists.{In, Distinct}
use Rattle.fir_base.specs.Ticks.{Env, Tick, FitEach}
use Rattle.fir_base.proofs.Each.{all_at}
use Rattle.fir_base.proofs.Members.{in_map, in_left, in_right, in_either, in_flat_map_from}
use Rattle.fir_base.proofs.SameNames.{name_is, name_same}
use Rattle.ver_ast.specs.declared.tree.Verilog.{Verilog}
use Rattle.ver_ast.specs.declared.tree.Edge.{Edge}
use Rattle.ver_ast.specs.declared.tree.Write.{Write}
use Rattle.ver_ast.specs.Atoms.{AtomTree, net, constant, bit_select, part_select, concat, repeat, AtomTrees, no_atoms, atom_before}
use Rattle.ver_ast.specs.AtomForms.{constant_number}
use Rattle.ver_ast.specs.AtomValues.{atom_value}
use Rattle.ver_ast.specs.Names.{atom_names, joined_names, rhs_atoms}
use Rattle.ver_ast.specs.SoundSides.{IsSound, AreSound, IsOperand, HasWidth}
use Rattle.ver_ast.specs.Nets.{SizedNet, width_among, regs, arrays, nets, Variable, reg_variable, variables, variable_names, variable_widths, AlwaysBlock, plain_block, resetting_block, writing_block, blocks}
use Rattle.ver_ast.specs.Valid.{Valid, IsSoundBlock, IsWrite, AreWrites, IsEdge}
use Rattle.ver_ast.specs.Stores.{Store, store_of, state_of}
use Rattle.ver_ast.specs.Processes.{Process, processes, target, process_reads, given}
use Rattle.ver_ast.specs.Next.{Put, puts, edge_put, write_put, put_one, put_all, acts, acting, all_puts, state_after}
use Rattle.ver_ast.proofs.Chosen.{chosen}
use Rattle.ver_ast.proofs.Widths.{FitNames, atom_fits}
use Rattle.ver_ast.proofs.Processes.{variables_once, by_kind, is_resetting, width_is, given_fits}

-- two members with the same name are one
same_by : {A : Type 0} → (f : A → List ℕ) (xs : List A) → Distinct (map f xs) → (x y : A) → In xs x → In xs y → f x ≡ f y → x ≡ y
same_by f [] d x y m n e = absurd m
same_by f (z ∷ zs) d x y (inl p) (inl q) e = sym p ∙ q
same_by f (z ∷ zs) d x y (inl p) (inr n) e = absurd (d.0 (subst (In (map f zs)) (sym (ap f p ∙ e)) (in_map f zs y n)))
same_by f (z ∷ zs) d x y (inr m) (inl q) e = absurd (d.0 (subst (In (map f zs)) (e ∙ sym (ap f q)) (in_map f zs x m)))
same_by f (z ∷ zs) d x y (inr m) (inr n) e = same_by f zs d.1 x y m n e

-- so many words, each of the width
record AreWords (k : Variable) (words : List ℕ) : Type 0 where
  fit : AllByRecursion (λ x. x < 2 ^ k.width) words
  long : length words ≡ k.depth

-- a state that fits, as words of each name
record Front (d w : ℕ) (ws state : List ℕ) : Type 0 where
  fit : AllByRecursion (λ x. x < 2 ^ w) (take d state)
  long : length (take d state) ≡ d
  rest : FitEach ws (drop d state)

front : (d w : ℕ) (ws state : List ℕ) → FitEach (replicate d w ++ ws) state → Front d w ws state
front zero w ws state h = record { fit = tt; long = refl; rest = h }
front (suc d) w ws [] h = absurd h
front (suc d) w ws (x ∷ xs) h = let r = front d w ws xs h.1 in record { fit = (h.0, r.fit); long = ap suc r.long; rest = r.rest }

words_of : (ks : List Variable) (state : List ℕ) → Distinct (variable_names ks) → FitEach (variable_widths ks) state → (k : Variable) → In ks k → AreWords k (store_of ks state k.name)
words_of [] state d h k m = absurd m
words_of (q ∷ qs) state d h k (inl e) =
    let r = front q.depth q.width (variable_widths qs) state h in
    let here : AreWords q (store_of (q ∷ qs) state q.name) = rw (name_same q.name) (record { fit = r.fit; long = r.long }) in
    subst (λ (p : Variable). AreWords p (store_of (q ∷ qs) state p.name)) e here
words_of (q ∷ qs) state d h k (inr m) =
    let r = front q.depth q.width (variable_widths qs) state h in
    cond_both (bytes_eq q.name k.name) (take q.depth state) (store_of qs (drop q.depth state) k.name) (λ (xs : List ℕ). AreWords k xs)
    (λ t. absurd (d.0 (subst (In (variable_names qs)) (sym (name_is q.name k.name t)) (in_map (λ (p : Variable). p.name) qs k m))))
    (λ _. words_of qs (drop q.depth state) d.1 r.rest k m)

joined_fit : (d w : ℕ) (ws xs ys : List ℕ) → AllByRecursion (λ x. x < 2 ^ w) xs → length xs ≡ d → FitEach ws ys → FitEach (replicate d w ++ ws) (xs ++ ys)
joined_fit zero w ws [] ys h l k = k
joined_fit zero w ws (x ∷ xs) ys h l k = absurd (omega (arith, l))
joined_fit (suc d) w ws [] ys h l k = absurd (omega (arith, l))
joined_fit (suc d) w ws (x ∷ xs) ys h l k = (h.0, joined_fit d w ws xs ys h.1 (omega (arith, l)) k)

state_fits : (ks : List Variable) (store : Store) → ((k : Variable) → In ks k → AreWords k (store k.name)) → FitEach (variable_widths ks) (state_of ks store)
state_fits [] store h = tt
state_fits (k ∷ ks) store h =
    let r = h k (inl refl) in
    joined_fit k.depth k.width (variable_widths ks) (store k.name) (state_of ks store) r.fit r.long (state_fits ks store (λ q m. h q (inr m)))

-- a word more that fits
set_fits : (w : ℕ) (xs : List ℕ) (i y : ℕ) → AllByRecursion (λ x. x < 2 ^ w) xs → y < 2 ^ w → AllByRecursion (λ x. x < 2 ^ w) (set xs i y)
set_fits w [] i y h f = tt
set_fits w (x ∷ xs) zero y h f = (f, h.1)
set_fits w (x ∷ xs) (suc i) y h f = (h.0, set_fits w xs i y h.1 f)

puts_fit : (k : Variable) (ps : List Put) (store : Store) → AreWords k (store k.name) → ((p : Put) → In ps p → p.name ≡ k.name → p.word < 2 ^ k.width)
    → AreWords k (put_all ps store k.name)
puts_fit k [] store r h = r
puts_fit k (p ∷ ps) store r h = puts_fit k ps (put_one p store) (by (bytes_eq p.name k.name) refl) (λ q m. h q (inr m))
  where
    by : (b : Bool) → bytes_eq p.name k.name ≡ b → AreWords k (cond b (slice_set (store k.name) p.place p.word) (store k.name))
    by true e = record {
      fit = set_fits k.width (store k.name) p.place p.word r.fit (h p (inl refl) (name_is p.name k.name e));
      long = length-set (store k.name) p.place p.word ∙ r.long;
    }
    by false e = r

-- a name that has a width is one of the nets
pub width_there : (ns : List SizedNet) (n : List ℕ) → 1 ≤ width_among ns n → In ns (n, width_among ns n)
width_there [] n h = absurd (omega (arith, h))
width_there (s ∷ ss) n h = by (bytes_eq s.0 n) refl h (width_there ss n)
  where
    by : (b : Bool) → bytes_eq s.0 n ≡ b → 1 ≤ cond b s.1 (width_among ss n) → (1 ≤ width_among ss n → In ss (n, width_among ss n)) → In (s ∷ ss) (n, cond b s.1 (width_among ss n))
    by true e g ih = inl (ap (λ (k : List ℕ). (k, s.1)) (name_is s.0 n e))
    by false e g ih = inr (ih g)

-- sound operands read nets alone
module _ (ns : List SizedNet) (env : Env) (fits : (n : List ℕ) (w : ℕ) → In ns (n, w) → env n < 2 ^ w) where
  one_fits : (n : List ℕ) → 1 ≤ width_among ns n → FitNames ns env (n ∷ [])
  one_fits n h = record {
    each = λ m i. ⊎_elim
        (λ (e : n ≡ m). subst (λ (k : List ℕ). env k < 2 ^ width_among ns k) e (fits n (width_among ns n) (width_there ns n h))) (λ (no-such : ⊥). absurd no-such) i;
  }

  both_fit : (xs ys : List (List ℕ)) → FitNames ns env xs → FitNames ns env ys → FitNames ns env (xs ++ ys)
  both_fit xs ys h k = record { each = λ n m. ⊎_elim (λ (o : In xs n). h.each n o) (λ (o : In ys n). k.each n o) (in_either xs ys n m) }

  mutual
    pub names_fit : (a : AtomTree) → IsSound ns a → FitNames ns env (atom_names a)
    names_fit (net n) s = one_fits n s
    names_fit (constant width value) s = record { each = λ n m. absurd m }
    names_fit (bit_select n i) s = one_fits n (omega (arith, s.0))
    names_fit (part_select n hi lo) s = one_fits n (omega (arith, s.0))
    names_fit (concat a more) s = both_fit (atom_names a) (joined_names more) (names_fit a s.0) (more_fit more s.1)
    names_fit (repeat count a) s = names_fit a s.0

    more_fit : (more : AtomTrees) → AreSound ns more → FitNames ns env (joined_names more)
    more_fit no_atoms s = record { each = λ n m. absurd m }
    more_fit (atom_before a more) s = both_fit (atom_names a) (joined_names more) (names_fit a s.0) (more_fit more s.1)

  operand_fits : (w : ℕ) (a : AtomTree) → HasWidth ns w a → atom_value ns env a < 2 ^ w
  operand_fits w a h = subst (λ (u : ℕ). atom_value ns env a < 2 ^ u) h.wide (atom_fits ns env a h.operand.sound (names_fit a h.operand.sound))

  operands_fit : (as_read : List AtomTree) → AllByRecursion (IsOperand ns) as_read → FitNames ns env (flat_map atom_names as_read)
  operands_fit [] h = record { each = λ n m. absurd m }
  operands_fit (a ∷ more) h = both_fit (atom_names a) (flat_map atom_names more) (names_fit a h.0.sound) (operands_fit more h.1)

module _ (v : Verilog) (valid : Valid v) (env : Env) (fits : (n : List ℕ) (w : ℕ) → In (nets v) (n, w) → env n < 2 ^ w) where
  -- what a process process_reads fits, and so does what it gives
  reads_fit : (p : Process) → In (processes v) p → FitNames (nets v) env (process_reads p)
  reads_fit = by_kind v (λ p. FitNames (nets v) env (process_reads p))
      (λ a m. operands_fit (nets v) env fits (rhs_atoms a.rhs) (valid.sound_assigns a m).2.operands)
      (λ b m. let r = is_resetting v valid b m in
      let wide : width_among (nets v) b.reset ≡ 1 = width_is v valid b.reset 1 r.bit in
      one_fits (nets v) env fits b.reset (omega (arith, wide)))

  pub given_below : (state : List ℕ) → FitEach (variable_widths (variables v)) state → (p : Process) → In (processes v) p → (w : ℕ) → In (nets v) (target p, w)
      → given v (store_of (variables v) state) env p < 2 ^ w
  given_below state h p m w i =
      subst (λ (u : ℕ). given v (store_of (variables v) state) env p < 2 ^ u) (width_is v valid (target p) w i) (given_fits v valid state h p m env (reads_fit p m))

  -- the words of a name have the width of the one thing of that name
  as_wide : (k q : Variable) → In (variables v) k → In (variables v) q → k.name ≡ q.name → (x : ℕ) → x < 2 ^ k.width → x < 2 ^ q.width
  as_wide k q m n e x h = subst (λ (j : Variable). x < 2 ^ j.width) (same_by (λ (j : Variable). j.name) (variables v) (variables_once v valid) k q m n e) h

  reg_wide : (n : List ℕ) (w : ℕ) → In (regs v) (n, w) → (k : Variable) → In (variables v) k → n ≡ k.name → (x : ℕ) → x < 2 ^ w → x < 2 ^ k.width
  reg_wide n w m k i e x h = as_wide (reg_variable (n, w)) k (in_left (map reg_variable (regs v)) (arrays v) (reg_variable (n, w)) (in_map reg_variable (regs v) (n, w) m)) i e x h

  one_word : (name : List ℕ) (w x : ℕ) → In (regs v) (name, w) → x < 2 ^ w → (p : Put) → In (record { name = name; place = 0; word = x } ∷ []) p
      → (k : Variable) → In (variables v) k → p.name ≡ k.name → p.word < 2 ^ k.width
  one_word name w x m h p (inl q) k i e =
      subst (λ (z : Put). z.word < 2 ^ k.width) q (reg_wide name w m k i (ap (λ (z : Put). z.name) q ∙ e) x h)
  one_word name w x m h p (inr n) k i e = absurd n

  edge_word : (name : List ℕ) (w : ℕ) (o : Option Edge) → In (regs v) (name, w) → IsEdge v name w o → (p : Put) → In (edge_put (nets v) env name o) p
      → (k : Variable) → In (variables v) k → p.name ≡ k.name → p.word < 2 ^ k.width
  edge_word name w None m h p n k i e = absurd n
  edge_word name w (Some o) m h p n k i e = one_word name w (atom_value (nets v) env o.source) m (operand_fits (nets v) env fits w o.source h.2) p n k i e

  write_word : (name : List ℕ) (w : Write) → IsWrite v name w → (p : Put) → In (write_put (nets v) env w) p → (k : Variable) → In (variables v) k → p.name ≡ k.name
      → p.word < 2 ^ k.width
  write_word name w s p m k i e = by (atom_value (nets v) env w.condition == 1) m
    where
      q : Put
      q = record { name = w.array; place = atom_value (nets v) env w.index; word = atom_value (nets v) env w.source }

      below : w.array ≡ k.name → q.word < 2 ^ k.width
      below f =
          as_wide s.array k (in_right (map reg_variable (regs v)) (arrays v) s.array s.is_array) i (s.named ∙ sym s.one_array ∙ f) q.word
          (operand_fits (nets v) env fits s.array.width w.source s.source_wide)

      by : (b : Bool) → In (cond b (q ∷ []) []) p → p.word < 2 ^ k.width
      by true (inl f) = subst (λ (z : Put). z.word < 2 ^ k.width) f (below (ap (λ (z : Put). z.name) f ∙ e))
      by true (inr n) = absurd n
      by false n = absurd n

  writes_word : (ws : List Write) → AreWrites v ws → (p : Put) → In (flat_map (write_put (nets v) env) ws) p → (k : Variable) → In (variables v) k → p.name ≡ k.name
      → p.word < 2 ^ k.width
  writes_word [] h p m k i e = absurd m
  writes_word (w ∷ ws) h p m k i e =
      let t = in_flat_map_from (write_put (nets v) env) (w ∷ ws) p m in
      write_word w.array t.0 (all_at (IsWrite v w.array) (w ∷ ws) h t.0 t.1) p t.2 k i e

  block_word : (b : AlwaysBlock) → IsSoundBlock v b → (p : Put) → In (puts (nets v) env b) p → (k : Variable) → In (variables v) k → p.name ≡ k.name → p.word < 2 ^ k.width
  block_word (plain_block b) h p m k i e = one_word b.target h.width (atom_value (nets v) env b.source) h.register (operand_fits (nets v) env fits h.width b.source h.wide) p m k i e
  block_word (resetting_block b) h p m k i e = by (env b.reset == 1) m
    where
      by : (c : Bool) → In (cond c (record { name = b.target; place = 0; word = constant_number b.value } ∷ []) (edge_put (nets v) env b.target b.edge)) p → p.word < 2 ^ k.width
      by true n = one_word b.target b.value.width (constant_number b.value) h.register h.constant_fits p n k i e
      by false n = edge_word b.target b.value.width b.edge h.register h.clocked p n k i e
  block_word (writing_block b) h p m k i e = writes_word b.writes h.1 p m k i e

  -- the state after the writes of an edge has the shape
  pub next_fits : (state : List ℕ) (tick : Tick) → FitEach (variable_widths (variables v)) state → FitEach (variable_widths (variables v)) (state_after v state (all_puts v tick env))
  next_fits state tick h =
      state_fits (variables v) (put_all (all_puts v tick env) (store_of (variables v) state))
      (λ k m. puts_fit k (all_puts v tick env) (store_of (variables v) state) (words_of (variables v) state (variables_once v valid) h k m)
      (λ p i e. let t = in_flat_map_from (puts (nets v) env) (acting v tick env) p i in
      block_word t.0 (valid.sound_blocks t.0 (chosen (acts tick.clocks env) (blocks v) t.0 t.1).0) p t.2 k m e))
