-- Where the values of a net and of its tree agree, so do the states after a tick.
-- While its reset is 1, a register keeps its constant, which it shows. Else its block writes what drives it, when its clock is named; one that nothing drives, or
-- that has no clock, keeps its word.
use Rattle.std.proofs.Common.{◌≡◌, ℕ, ◌≤◌, List, [], map, Bool, true, false, ◌==◌, if◌then◌else◌, refl, sym, ap, ◌∙◌, subst, Option, Some, None, unwrap_or}
use Rattle.std.specs.Prelude.{slice_get}
use Rattle.std.proofs.lemmas.Bool.{cond_both}
use Rattle.std.proofs.lemmas.Simd.{map-map}
use Rattle.fir_base.specs.Lists.{In}
use Rattle.fir_base.specs.Ticks.{Env, Tick, rises}
use Rattle.fir_inits.specs.working.InitValues.{init_at}
use Rattle.fir_net.specs.declared.reads.Read.{Read}
use Rattle.fir_net.specs.declared.leaf.Reset.{Reset}
use Rattle.fir_net.specs.declared.leaf.Leaf.{Leaf}
use Rattle.fir_net.specs.declared.net.FlatNet.{FlatNet}
use Rattle.fir_net.specs.working.Counted.{is_register}
use Rattle.fir_net_names.specs.declared.name_table.NameTable.{NameTable}
use Rattle.fir_net_names.specs.working.LeafNamed.{name_at}
use Rattle.fir_net.specs.working.IsNet.{CanRead, CanBeDriven}
use Rattle.fir_net.specs.working.Next.{taken, taken_under, taken_with, ticks, next_by, next_of, next_word}
use Rattle.fir_net.specs.working.Settled.{value_at, is_clock, is_high, registers}
use Rattle.fir_net.specs.working.Values.{at_width}
use Rattle.ver_ast.specs.declared.tree.Edge.{Edge}
use Rattle.ver_ast.specs.Nets.{SizedNet, nets, regs}
use Rattle.ver_ast.specs.Settled.{Rest}
use Rattle.ver_ast.specs.AtomValues.{atom_value}
use Rattle.ver_ast.specs.Stores.{stored}
use Rattle.ver_build.specs.declared.places.Places.{Places}
use Rattle.ver_build.specs.working.Operands.{atom_at}
use Rattle.ver_build.specs.working.Places.{held_of, clock_in}
use Rattle.ver_build.specs.working.Blocks.{block_on, edge_on, plain_on, reset_net}
use Rattle.ver_build.proofs.Premises.{Premises}
use Rattle.ver_build.proofs.Parts.{in_parts}
use Rattle.ver_build.proofs.Nets.{sizes, nets_sized}
use Rattle.ver_build.proofs.Words.{IsWord, word_at, named_word, word_edge}
use Rattle.ver_build.proofs.Written.{edge_word}
use Rattle.ver_build.proofs.ReadsStand.{leaf_at, word_kind, word_role}
use Rattle.ver_build.proofs.LeafValues.{AgreesLeaves, registers_same}
use Rattle.ver_build.proofs.WordsWritten.{kept}
use Rattle.ver_build.proofs.Resting.{words, words_after, plain_shows, reset_shows, word_after}

-- the clock that a tree shows for a clock input, or none
abbrev pub shown_clock : NameTable → Env → Option ℕ → Option ℕ
shown_clock t f None = None
shown_clock t f (Some k) = Some (f (unwrap_or (name_at t.leaves k) []))

-- a choice of a net beside values at rest in its tree: leaves that have names, clocks, and resets have their values there
pub record Agrees (net : FlatNet) (t : NameTable) (p : Places) (order : List Read) (e : ℕ → ℕ) (clock : ℕ → Option ℕ) (f : Env) : Type 0 where
  pub leaves : AgreesLeaves net t e clock f
  pub clocks : (k : ℕ) (l : Leaf) → slice_get net.leaves k ≡ Some l → is_clock l.role ≡ true → clock k ≡ shown_clock t f (clock_in p.leaves k)
  pub sources : (r : Read) → CanRead net.leaves net.nodes r → (w : ℕ) → 1 ≤ w → w ≤ 128 → atom_value (sizes net t p order) f (atom_at w (held_of p r)) ≡ at_width (value_at net e r) w
  pub resets : (k : ℕ) → In net.state k → (w : IsWord net t k) → (r : Reset) → w.own.reset ≡ Some r → f (reset_net p k r) ≡ (value_at net e r.condition).value.number

module _ (net : FlatNet) (t : NameTable) (p : Places) (order : List Read) (is : Premises net t p order) (state : List ℕ) (tick : Tick) (f : Env)
    (rest : Rest (in_parts net t p order) state tick f) (e : ℕ → ℕ) (clock : ℕ → Option ℕ) (agrees : Agrees net t p order e clock f) where
  abbrev ns : List SizedNet
  ns = nets (in_parts net t p order)

  abbrev named : List ℕ
  named = tick.clocks

  source : (r : Read) → CanRead net.leaves net.nodes r → (w : ℕ) → 1 ≤ w → w ≤ 128 → atom_value ns f (atom_at w (held_of p r)) ≡ at_width (value_at net e r) w
  source r can w one narrow =
      ap (λ (ss : List SizedNet). atom_value ss f (atom_at w (held_of p r))) (nets_sized net t p order is) ∙ agrees.sources r can w one narrow

  either_word : (c : Bool) (a b word now : ℕ) → a ≡ b → word ≡ now → unwrap_or (if c then Some a else None) word ≡ (if c then b else now)
  either_word true a b word now same still = same
  either_word false a b word now same still = still

  -- what an edge gives, where its clock ends there
  edge_next : (c d : Option ℕ) (s : Bool) (w : ℕ) (next : Option Read) (n : List ℕ) (word now : ℕ) → d ≡ shown_clock t f c
      → CanBeDriven net.leaves net.nodes s next → 1 ≤ w → w ≤ 128 → word ≡ now
      → unwrap_or (edge_word ns f named (edge_on t p c w next n)) word ≡ (if ticks named d then taken net e w now next else now)
  edge_next None d s w next n word now shown can one narrow same = rw shown same
  edge_next (Some k) d s w None n word now shown can one narrow same = cond_both (ticks named d) now now (λ x. word ≡ x) (λ h. same) (λ h. same)
  edge_next (Some k) d s w (Some r) n word now shown can one narrow same =
      rw shown (either_word (rises named (f (unwrap_or (name_at t.leaves k) []))) (atom_value ns f (atom_at w (held_of p r))) (at_width (value_at net e r) w) word now
      (source r can.can w one narrow) same)

  word_edge_next : (k : ℕ) (w : IsWord net t k) (word now : ℕ) → word ≡ now
      → unwrap_or (edge_word ns f named (word_edge net t p k w)) word
      ≡ (if ticks named (clock w.own.clock) then taken net e w.leaf.width now w.own.next else now)
  word_edge_next k w word now same =
      let driven = word_role net t p order is k w in
      let input = driven.0 in
      edge_next (clock_in p.leaves w.own.clock) (clock w.own.clock) w.leaf.signed w.leaf.width w.own.next w.name word now
      (agrees.clocks w.own.clock input.0 input.1 input.2) driven.2 w.some (leaf_at net t p order is k w.leaf w.at).narrow same

  -- the register shows its value
  shows : (k : ℕ) (w : IsWord net t k) → f w.name ≡ e k
  shows k w = agrees.leaves.value k w.leaf w.name w.at (ap is_clock w.register) w.named

  plain_kept : (edge : Option Edge) (word : ℕ) → kept ns f named (plain_on edge) word ≡ unwrap_or (edge_word ns f named edge) word
  plain_kept None word = refl
  plain_kept (Some x) word = refl

  -- while the reset is 1 the constant, which is shown, and else what the edge gives
  reset_next : (b c : Bool) (constant word now taken_now : ℕ) (edge : Option ℕ) → now ≡ (if b then constant else word)
      → (word ≡ now → unwrap_or edge word ≡ (if c then taken_now else now))
      → unwrap_or (if b then Some constant else edge) word ≡ (if c then (if b then now else taken_now) else now)
  reset_next true c constant word now taken_now edge shown go = cond_both c now now (λ x. constant ≡ x) (λ h. sym shown) (λ h. sym shown)
  reset_next false c constant word now taken_now edge shown go = go (sym shown)

  high_is : (k : ℕ) → In net.state k → (w : IsWord net t k) → (r : Reset) → w.own.reset ≡ Some r → (f (reset_net p k r) == 1) ≡ is_high net e r.condition
  high_is k m w r has = ap (λ (n : ℕ). n == 1) (agrees.resets k m w r has)

  word_next : (k : ℕ) → In net.state k → (w : IsWord net t k) → (reset : Option Reset) → w.own.reset ≡ reset
      → kept ns f named (block_on p k w.leaf.width w.name reset (word_edge net t p k w)) (stored (words net t p order is state tick f rest) w.name)
      ≡ (if ticks named (clock w.own.clock) then taken_with net e w.leaf.width (e k) reset (taken net e w.leaf.width (e k) w.own.next) else e k)
  word_next k m w None none =
      plain_kept (word_edge net t p k w) (stored (words net t p order is state tick f rest) w.name)
      ∙ word_edge_next k w (stored (words net t p order is state tick f rest) w.name) (e k)
      (sym (plain_shows net t p order is state tick f rest k w none) ∙ shows k w)
  word_next k m w (Some r) has =
      let word = stored (words net t p order is state tick f rest) w.name in
      let high = high_is k m w r has in
      let shown = sym (shows k w) ∙ reset_shows net t p order is state tick f rest k m w r has in
      let kind = word_kind net t p order is k w r has in
      ap (λ (b : Bool). unwrap_or (if b then Some (init_at p.inits k) else edge_word ns f named (word_edge net t p k w)) word) high
      ∙ reset_next (is_high net e r.condition) (ticks named (clock w.own.clock)) (init_at p.inits k) word (e k) (taken net e w.leaf.width (e k) w.own.next)
      (edge_word ns f named (word_edge net t p k w)) (shown ∙ ap (λ (b : Bool). if b then init_at p.inits k else word) high)
      (λ same. word_edge_next k w word (e k) same)
      ∙ sym (ap (λ x. if ticks named (clock w.own.clock) then taken_under net e w.leaf.width (e k) x r.condition r.init (taken net e w.leaf.width (e k) w.own.next) else e k) kind)

  -- each word has its next value there
  next_value : (k : ℕ) → In net.state k → (w : IsWord net t k)
      → stored (words_after net t p order is state tick f rest) w.name ≡ next_word net e clock named state k
  next_value k m w =
      word_after net t p order is state tick f rest k m w ∙ word_next k m w w.own.reset refl
      ∙ sym (ap (next_of net e clock named state (e k)) w.at ∙ ap (next_by net e clock named state w.leaf.width (e k)) w.register)

  pub states_same : map (λ (r : SizedNet). stored (words_after net t p order is state tick f rest) r.0) (regs (in_parts net t p order)) ≡ map
      (next_word net e clock tick.clocks state) (registers net)
  states_same =
      sym (map-map (stored (words_after net t p order is state tick f rest)) (λ (r : SizedNet). r.0) (regs (in_parts net t p order)))
      ∙ registers_same net t p order is (next_word net e clock named state) (stored (words_after net t p order is state tick f rest)) each
    where
      each : (k : ℕ) (l : Leaf) (name : List ℕ) → slice_get net.leaves k ≡ Some l → is_register l.role ≡ true → name_at t.leaves k ≡ Some name
          → stored (words_after net t p order is state tick f rest) name ≡ next_word net e clock named state k
      each k l name at kind has =
          let m = named_word net t is.whole is.table k l name at kind has in
          let w = word_at net t is.whole is.table is.pipes k m in
          let own = w.named in
          let same : w.name ≡ name = cc in
          subst (λ (n : List ℕ). stored (words_after net t p order is state tick f rest) n ≡ next_word net e clock named state k) same (next_value k m w)
