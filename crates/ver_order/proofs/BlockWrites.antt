-- Each register and array has one block at most that writes to it.
use Rattle.std.proofs.Common.{◌≡◌, ℕ, List, [], ◌∷◌, cond, true, false, Bool, refl, sym, ap, ◌∙◌, inl, inr, ⊎_elim, subst}
use Rattle.std.specs.Prelude.{map, flat_map, filter, Option, Some, None, ◌==◌}
use Rattle.std.specs.List.{AllByRecursion}
use Rattle.fir_base.specs.Lists.{In, Distinct}
use Rattle.fir_base.specs.Ticks.{Env}
use Rattle.fir_base.specs.Words.{is_among}
use Rattle.fir_base.proofs.Each.{all_at}
use Rattle.fir_base.proofs.Members.{in_flat_map, in_flat_map_from}
use Rattle.fir_base.proofs.Twins.{distinct_left, distinct_right, apart, distinct_joined}
use Rattle.ver_ast.specs.declared.tree.Verilog.{Verilog}
use Rattle.ver_ast.specs.declared.tree.Edge.{Edge}
use Rattle.ver_ast.specs.declared.tree.Write.{Write}
use Rattle.ver_ast.specs.AtomForms.{constant_number}
use Rattle.ver_ast.specs.AtomValues.{atom_value}
use Rattle.ver_ast.specs.Nets.{nets, AlwaysBlock, plain_block, resetting_block, writing_block, first_array, block_target, block_targets}
use Rattle.ver_ast.specs.Valid.{IsSoundBlock, IsWrite, AreWrites}
use Rattle.ver_ast.specs.Next.{Put, puts, edge_put, write_put}
use Rattle.ver_ast.proofs.Chosen.{chosen, in_or_not, is_named}
use Rattle.ver_order.proofs.InTurn.{joined, joined_parts}
use Rattle.ver_order.proofs.WritesByName.{writes_to, none_named}
use Rattle.ver_order.proofs.OneWriter.{AtMostOne}

-- the targets of chosen blocks
target_chosen : (test : AlwaysBlock → Bool) (bs : List AlwaysBlock) (n : List ℕ) → In (block_targets (filter test bs)) n → In (block_targets bs) n
target_chosen test bs n m =
    let t = in_flat_map_from block_target (filter test bs) n m in
    in_flat_map block_target bs t.0 n (chosen test bs t.0 t.1).0 t.2

pub targets_once : (test : AlwaysBlock → Bool) (bs : List AlwaysBlock) → Distinct (block_targets bs) → Distinct (block_targets (filter test bs))
targets_once test [] d = tt
targets_once test (b ∷ bs) d = by (test b) (targets_once test bs (distinct_right (block_target b) (block_targets bs) d))
  where
    by : (c : Bool) → Distinct (block_targets (filter test bs)) → Distinct (block_targets (cond c (b ∷ filter test bs) (filter test bs)))
    by true k =
        distinct_joined (block_target b) (block_targets (filter test bs)) (distinct_left (block_target b) (block_targets bs) d) k
        (λ n m o. apart (block_target b) (block_targets bs) d n m (target_chosen test bs n o))
    by false k = k

-- of blocks with different targets one at most writes to a name, where each writes to its target alone
pub one_writer : (f : AlwaysBlock → List Put) (n : List ℕ) (bs : List AlwaysBlock) → Distinct (block_targets bs)
    → ((b : AlwaysBlock) → In bs b → (p : Put) → In (f b) p → In (block_target b) p.name) → AtMostOne n (map f bs)
one_writer f n [] d named = tt
one_writer f n (b ∷ bs) d named = (
  ⊎_elim (λ (m : In (block_target b) n). inr (none_behind m)) (λ (e : is_among (block_target b) n ≡ false). inl (none_here e)) (in_or_not (block_target b) n),
  one_writer f n bs (distinct_right (block_target b) (block_targets bs) d) (λ c m. named c (inr m)),
)
  where
    none_behind : In (block_target b) n → writes_to n (joined (map f bs)) ≡ []
    none_behind m = none_named n (joined (map f bs)) (λ p o e.
        let t = in_flat_map_from f bs p (subst (λ (ps : List Put). In ps p) (joined_parts f bs) o) in
        let name : In (block_targets bs) p.name = in_flat_map block_target bs t.0 p.name t.1 (named t.0 (inr t.1) p t.2) in
        apart (block_target b) (block_targets bs) d n m (subst (In (block_targets bs)) e name))

    none_here : is_among (block_target b) n ≡ false → writes_to n (f b) ≡ []
    none_here e = none_named n (f b) (λ p o same.
        let name : In (block_target b) n = subst (In (block_target b)) same (named b (inl refl) p o) in
        let yes : true ≡ false = sym (is_named (block_target b) n name) ∙ e in
        absurd (cc))

-- what a block writes has the name of its target
module _ (v : Verilog) (env : Env) where
  edge_named : (name : List ℕ) (e : Option Edge) (p : Put) → In (edge_put (nets v) env name e) p → In (name ∷ []) p.name
  edge_named name None p m = absurd m
  edge_named name (Some e) p (inl q) = inl (ap (λ (z : Put). z.name) q)
  edge_named name (Some e) p (inr m) = absurd m

  write_named : (w : Write) (p : Put) → In (write_put (nets v) env w) p → w.array ≡ p.name
  write_named w p m = by (atom_value (nets v) env w.condition == 1) m
    where
      q : Put
      q = record { name = w.array; place = atom_value (nets v) env w.index; word = atom_value (nets v) env w.source }

      by : (b : Bool) → In (cond b (q ∷ []) []) p → w.array ≡ p.name
      by true (inl e) = ap (λ (z : Put). z.name) e
      by true (inr n) = absurd n
      by false n = absurd n

  writes_named : (ws : List Write) → AreWrites v ws → (p : Put) → In (flat_map (write_put (nets v) env) ws) p → In (first_array ws) p.name
  writes_named [] h p m = absurd m
  writes_named (w ∷ ws) h p m =
      let t = in_flat_map_from (write_put (nets v) env) (w ∷ ws) p m in
      inl (sym (all_at (λ u. u.array ≡ w.array) (w ∷ ws) (one (w ∷ ws) h) t.0 t.1) ∙ write_named t.0 p t.2)
    where
      one : (us : List Write) → AllByRecursion (λ u. IsWrite v w.array u) us → AllByRecursion (λ u. u.array ≡ w.array) us
      one [] k = tt
      one (u ∷ us) k = (k.0.one_array, one us k.1)

  pub named : (b : AlwaysBlock) → IsSoundBlock v b → (p : Put) → In (puts (nets v) env b) p → In (block_target b) p.name
  named (plain_block b) h p (inl q) = inl (ap (λ (z : Put). z.name) q)
  named (plain_block b) h p (inr m) = absurd m
  named (resetting_block b) h p m = by (env b.reset == 1) m
    where
      q : Put
      q = record { name = b.target; place = 0; word = constant_number b.value }

      by : (c : Bool) → In (cond c (q ∷ []) (edge_put (nets v) env b.target b.edge)) p → In (b.target ∷ []) p.name
      by true (inl e) = inl (ap (λ (z : Put). z.name) e)
      by true (inr n) = absurd n
      by false n = edge_named b.target b.edge p n
  named (writing_block b) h p m = writes_named b.writes h.1 p m
