-- The tree of a flat net, in which each pipe is a register, has a block for just those words of the state that have one by the source.
use Rattle.std.proofs.Common.{◌≡◌, ◌↔◌, ◌⊎◌, inl, inr, ℕ, suc, ◌+◌, List, [], ◌∷◌, ◌++◌, length, map, flat_map, replicate, Bool, Option, Some, None, length-append, refl, sym, ap, ◌∙◌, subst, arith, true≢false, ⊎_elim}
use Rattle.std.specs.Prelude.{IsSome, IsTrue, option_map, slice_get, unwrap_or}
use Rattle.std.proofs.lemmas.List.{length-map}
use Rattle.std.proofs.lemmas.Option.{same_Some}
use Rattle.fir_meaning.specs.SourceCircuits.{PlacedArray, PlacedLeaf, state_arrays, state_words, widths_in, widths_of_leaves}
use Rattle.fir_meaning.specs.LeafTypes.{number_type}
use Rattle.fir_meaning.specs.SourceDesigns.{SourceDesign}
use Rattle.fir_meaning.specs.SourceRoles.{SourceRole, computed, pipe, reading, register, sink, source}
use Rattle.fir_net.specs.Rows.{ArrayRow}
use Rattle.fir_net.specs.declared.array.Array.{Array}
use Rattle.fir_net.specs.declared.array.Pipe.{Pipe}
use Rattle.fir_net.specs.declared.leaf.Leaf.{Leaf}
use Rattle.fir_net.specs.declared.leaf.Register.{Register}
use Rattle.fir_net.specs.declared.leaf.Role.TheVariants as role
use Rattle.fir_net.specs.declared.net.FlatNet.{FlatNet}
use Rattle.fir_net.specs.declared.reads.Read.{Read}
use Rattle.fir_net.specs.working.Arrays.{array_widths, widths_of}
use Rattle.fir_net.specs.working.IsNet.{IsClock, IsNet}
use Rattle.fir_net.specs.working.IsOrder.{IsOrder}
use Rattle.fir_net.specs.working.One.{One as NetOne}
use Rattle.fir_net.specs.working.Rows.{array_row as row_of}
use Rattle.fir_net.specs.working.Values.{leaf_width}
use Rattle.fir_net.proofs.LeafEquations.{driven_at}
use Rattle.fir_net.proofs.StateWords.{RegisterAt, StateAt, register_at, state_at, state_of}
use Rattle.fir_flatten.specs.SourceRows.{array_row}
use Rattle.fir_flatten.specs.BlockWords.{HasBlock, HaveBlocks, IsClocked, TakesValue, is_pipe, is_reset_at_once}
use Rattle.fir_equivalence.specs.working.IsEquivalent.{HasClock}
use Rattle.fir_flatten.specs.working.FlattensTo.{MeansSource}
use Rattle.fir_mem.specs.working.Lowers.{HasRole, Lowers}
use Rattle.ver_build.specs.working.BlockRegisters.{AreMarked, EndsAtInput, HasBlock as HasBlockIn, net_registers, role_register, word_register}
use Rattle.fir_compile.proofs.ClockEnds.{ends_where_it_has}

-- the widths of the words of an array by its row
abbrev row_widths : ArrayRow → List ℕ
row_widths r = replicate r.depth r.width

source_widths : (arrays : List PlacedArray) → flat_map widths_in arrays ≡ flat_map row_widths (map array_row arrays)
source_widths [] = refl
source_widths (a ∷ arrays) = ap (λ (ws : List ℕ). widths_in a ++ ws) (source_widths arrays)

net_widths : (net : FlatNet) (ks : List ℕ) → flat_map (widths_of net) ks ≡ flat_map row_widths (flat_map (λ k. row_of (slice_get net.arrays k)) ks)
net_widths net [] = refl
net_widths net (k ∷ ks) = by (slice_get net.arrays k) (net_widths net ks)
  where
    by : (o : Option Array) → flat_map (widths_of net) ks ≡ flat_map row_widths (flat_map (λ j. row_of (slice_get net.arrays j)) ks)
        → replicate (unwrap_or (option_map (λ (a : Array). a.words) o) 0) (unwrap_or (option_map (λ (a : Array). a.width) o) 0) ++ flat_map (widths_of net) ks
        ≡ flat_map row_widths (row_of o ++ flat_map (λ j. row_of (slice_get net.arrays j)) ks)
    by None same = same
    by (Some a) same = ap (λ (ws : List ℕ). replicate a.words a.width ++ ws) same

module _ (t : SourceDesign) (net : FlatNet) (means : MeansSource t net) where
  -- as many words as in the source
  as_many : length net.state ≡ length (state_words t)
  as_many =
      let words = map (leaf_width net.leaves) net.state in
      let behind : array_widths net ≡ flat_map widths_in (state_arrays t) =
      net_widths net net.array_order ∙ ap (flat_map row_widths) means.arrays ∙ sym (source_widths (state_arrays t)) in
      let widths : words ++ array_widths net ≡ widths_of_leaves (state_words t) ++ flat_map widths_in (state_arrays t) = ap (λ s. s.state) means.shapes in
      let long : length words + length (array_widths net) ≡ length (widths_of_leaves (state_words t)) + length (flat_map widths_in (state_arrays t)) =
      sym (length-append words (array_widths net)) ∙ ap length widths ∙ length-append (widths_of_leaves (state_words t)) (flat_map widths_in (state_arrays t)) in
      let of_net = length-map net.state (leaf_width net.leaves) in
      let of_source = length-map (state_words t) (λ (p : PlacedLeaf). (number_type p.leaf.holds).width) in
      omega (arith, long, ap length behind, of_net, of_source)

-- the register of a net beside the word of the source
record TakesLike (t : SourceDesign) (net : FlatNet) (p : PlacedLeaf) (r : Register) : Type 0 where
  reset : IsSome r.reset ↔ IsTrue (is_reset_at_once p.leaf.role)
  takes : (IsSome r.reset ⊎ IsSome r.next) ↔ TakesValue t p
  clock : HasClock net r.clock ↔ IsClocked t p p.leaf.role

through : {A B C : Type 0} → A ↔ B → B ↔ C → A ↔ C
through f g = (λ a. g.0 (f.0 a), λ c. f.1 (g.1 c))

same_register : (a b : Register) → role.Register a ≡ role.Register b → a ≡ b
same_register a b e = cc

-- what a port has read is no register that is reset
no_reset : (q : SourceRole) → IsTrue (is_pipe q) → IsTrue (is_reset_at_once q) → ⊥
no_reset (pipe r clock under) is reset = cc
no_reset source is reset = cc
no_reset sink is reset = cc
no_reset (computed scope e q) is reset = cc
no_reset (register scope clock reset q) is at_once = cc
no_reset (reading r) is reset = cc

-- of the net in which each pipe is a register
module _ (t : SourceDesign) (net : FlatNet) (whole : IsNet net) (means : MeansSource t net) (low : FlatNet) (lowers : Lowers net low) where
  clock_like : (k : ℕ) → IsClock net.leaves k → HasClock low k ↔ HasClock net k
  clock_like k (l, at, is) = lowers.clocks k l at

  module _ (n k : ℕ) (p : PlacedLeaf) (l : Leaf) (r : Register) (word : slice_get net.state n ≡ Some k) (source_word : slice_get (state_words t) n ≡ Some p)
      (at : slice_get low.leaves k ≡ Some l) (is : l.role ≡ role.Register r) where
    same_role : (m : Register) → HasRole low k (role.Register m) → r ≡ m
    same_role m h = same_register r m (sym is ∙ ap (λ (x : Leaf). x.role) (same_Some l h.leaf (sym at ∙ h.at)) ∙ h.is)

    of_register : (found : StateAt net.leaves k) (d : Register) → found.leaf.role ≡ role.Register d → TakesLike t low p r
    of_register found d e =
        let takes = means.taken n k p found.leaf d word source_word found.at e in
        let can = driven_at net whole k found.leaf (role.Register d) found.at e in
        subst (TakesLike t low p) (sym (same_role d (lowers.registers k d (record { leaf = found.leaf; at = found.at; is = e }))))
        (record { reset = takes.reset; takes = takes.takes; clock = through (clock_like d.clock can.0) takes.clock })

    of_pipe : (found : StateAt net.leaves k) (q : Pipe) → found.leaf.role ≡ role.Pipe q → TakesLike t low p r
    of_pipe found q e =
        let takes = means.piped n k p found.leaf q word source_word found.at e in
        let can = driven_at net whole k found.leaf (role.Pipe q) found.at e in
        let made = lowers.pipes k q (record { leaf = found.leaf; at = found.at; is = e }) in
        subst (TakesLike t low p) (sym (same_role _ made.1))
        (record {
          reset = (λ none. absurd (true≢false (sym none)), λ at_once. absurd (no_reset p.leaf.role takes.is at_once));
          takes = (λ some. inr takes.is, λ takes_value. inr refl);
          clock = through (clock_like q.clock can.0) takes.clock;
        })

    taken_low : TakesLike t low p r
    taken_low =
        let found = state_at whole.state n k word in
        ⊎_elim
        (λ (d : (d : Register) × (found.leaf.role ≡ role.Register d)). of_register found d.0 d.1)
        (λ (q : (q : Pipe) × (found.leaf.role ≡ role.Pipe q)). of_pipe found q.0 q.1)
        (state_of found.leaf.role found.is)

  module _ (order : List Read) (is_order : IsOrder low order) (one : NetOne low) where
    same_block : (p : PlacedLeaf) (k : ℕ) (r : RegisterAt low.leaves k) → TakesLike t low p r.register → HasBlockIn low r.register ↔ HasBlock t p
    same_block p k r takes = (by_source, by_net)
      where
        clock : EndsAtInput low r.register.clock ↔ HasClock low r.register.clock
        clock =
            ends_where_it_has low lowers.whole order is_order one r.register.clock
            (driven_at low lowers.whole k r.leaf (role.Register r.register) r.at r.is).0

        by_source : HasBlockIn low r.register → HasBlock t p
        by_source (inl reset) = inl (takes.reset.0 reset)
        by_source (inr (next, ends)) = inr (takes.takes.0 (inr next), takes.clock.0 (clock.0 ends))

        driven : IsSome r.register.reset ⊎ IsSome r.register.next → IsClocked t p p.leaf.role → HasBlockIn low r.register
        driven (inl reset) clocked = inl reset
        driven (inr next) clocked = inr (next, clock.1 (takes.clock.1 clocked))

        by_net : HasBlock t p → HasBlockIn low r.register
        by_net (inl at_once) = inl (takes.reset.1 at_once)
        by_net (inr (taking, clocked)) = driven (takes.takes.1 taking) clocked

    abbrev registers_of : List ℕ → List Register
    registers_of ks = flat_map (λ k. word_register (slice_get low.leaves k)) ks

    one_more : (p : PlacedLeaf) (k : ℕ) (r : RegisterAt low.leaves k) (ks : List ℕ) (ps : List PlacedLeaf) → TakesLike t low p r.register
        → ((bs : List Bool) → AreMarked low (registers_of ks) bs → HaveBlocks t bs ps)
        → (bs : List Bool) → AreMarked low (r.register ∷ registers_of ks) bs → HaveBlocks t bs (p ∷ ps)
    one_more p k r ks ps takes rest [] marked = absurd marked
    one_more p k r ks ps takes rest (b ∷ bs) marked =
        let same = same_block p k r takes in
        ((λ is. same.0 (marked.0.0 is), λ is. marked.0.1 (same.1 is)), rest bs marked.1)

    words_have : (ks : List ℕ) (ps : List PlacedLeaf) → length ks ≡ length ps
        → ((n k : ℕ) → slice_get ks n ≡ Some k → RegisterAt low.leaves k)
        → ((n k : ℕ) (p : PlacedLeaf) (l : Leaf) (r : Register) → slice_get ks n ≡ Some k → slice_get ps n ≡ Some p → slice_get low.leaves k ≡ Some l
        → l.role ≡ role.Register r → TakesLike t low p r)
        → (bs : List Bool) → AreMarked low (registers_of ks) bs → HaveBlocks t bs ps
    words_have [] [] long registers takes [] marked = tt
    words_have [] [] long registers takes (b ∷ bs) marked = absurd marked
    words_have [] (p ∷ ps) long registers takes bs marked = cc
    words_have (k ∷ ks) [] long registers takes bs marked = cc
    words_have (k ∷ ks) (p ∷ ps) long registers takes bs marked =
        let r : RegisterAt low.leaves k = registers 0 k refl in
        let own : word_register (slice_get low.leaves k) ≡ r.register ∷ [] = ap word_register r.at ∙ ap role_register r.is in
        one_more p k r ks ps (takes 0 k p r.leaf r.register refl refl r.at r.is)
        (words_have ks ps (omega arith) (λ n j e. registers (suc n) j e) (λ n j q l d e f. takes (suc n) j q l d e f)) bs
        (subst (λ (rs : List Register). AreMarked low (rs ++ registers_of ks) bs) own marked)

    pub words_have_blocks : (bs : List Bool) → AreMarked low (net_registers low) bs → HaveBlocks t bs (state_words t)
    words_have_blocks =
        words_have low.state (state_words t) (ap length lowers.state ∙ as_many t net means) (register_at {net = low} lowers.whole.state lowers.no_pipes)
        (λ n k p l r word source_word at is. taken_low n k p l r (ap (λ (ks : List ℕ). slice_get ks n) (sym lowers.state) ∙ word) source_word at is)
