-- The laws: what is written anew may stand in the place of what it was, and so may what stands in the place of what stands there.
use Rattle.std.proofs.Common.{◌≡◌, ◌↔◌, ℕ, Bool, true, refl, sym, ◌∙◌, subst}
use Rattle.std.specs.Prelude.{slice_get, Option, Some, None, IsSome}
use Rattle.std.proofs.lemmas.Option.{same_Some}
use Rattle.fir_base.proofs.Elements.{all_there}
use Rattle.fir_net.specs.declared.leaf.Leaf.{Leaf}
use Rattle.fir_net.specs.declared.leaf.Reset.{Reset}
use Rattle.fir_net.specs.declared.leaf.Role.{Role}
use Rattle.fir_net.specs.declared.leaf.Role.TheVariants as role
use Rattle.fir_net.specs.declared.net.FlatNet.{FlatNet}
use Rattle.fir_net.specs.declared.reads.Read.{Read}
use Rattle.fir_net.specs.working.IsNet.{IsLeaf, IsNet, IsRole, is_state}
use Rattle.fir_net.specs.working.Laws.{OrderedHasOne}
use Rattle.fir_net.specs.working.One.{One}
use Rattle.fir_net.proofs.StateWords.{state_at as word_at}
use Rattle.fir_equivalence.specs.working.IsEquivalent.{HasClock, IsAlikeWord, IsEquivalent, TakesAlike, pipes, registers}
use Rattle.fir_equivalence.specs.working.Laws.{EquivalentOfEquivalent, RewrittenIsEquivalent}
use Rattle.fir_equivalence.specs.working.Rewrites.{IsSameNext, IsSameOptionalReset, IsSameRole, Rewrites}
use Rattle.fir_equivalence.proofs.Allowed.{allows_same, has_clock}
use Rattle.fir_equivalence.proofs.Arrays.{array_rows_same}
use Rattle.fir_equivalence.proofs.Ports.{rows_same}
use Rattle.fir_equivalence.proofs.Shapes.{net_words_same, output_widths, shapes, state_at}
use Rattle.fir_equivalence.proofs.Written.{names_there, writable_there}

both_ways : {A B C : Type 0} → A ↔ B → B ↔ C → A ↔ C
both_ways f g = (λ a. g.0 (f.0 a), λ c. f.1 (g.1 c))

module _ (net other : FlatNet) (number : ℕ → ℕ) (R : Rewrites net other number) (whole : IsNet net) (own : One net) (its : One other) where
  resets_alike : (width : ℕ) (a b : Option Reset) → IsSameOptionalReset net other number width a b → IsSome b ↔ IsSome a
  resets_alike width None None h = (λ i. i, λ i. i)
  resets_alike width None (Some b) h = absurd h
  resets_alike width (Some a) None h = absurd h
  resets_alike width (Some a) (Some b) h = (λ i. refl, λ i. refl)

  drivers_alike : (width : ℕ) (a b : Option Read) → IsSameNext net other number width a b → IsSome b ↔ IsSome a
  drivers_alike width None None h = (λ i. i, λ i. i)
  drivers_alike width None (Some b) h = absurd h
  drivers_alike width (Some a) None h = absurd h
  drivers_alike width (Some a) (Some b) h = (λ i. refl, λ i. refl)

  clocks_alike : (j k : ℕ) → number j ≡ k → HasClock other j ↔ HasClock net (number j) → HasClock other j ↔ HasClock net k
  clocks_alike j k e h = subst (λ (x : ℕ). HasClock other j ↔ HasClock net x) e h

  takes_alike : (width : ℕ) (signed : Bool) (r s : Role) → IsSameRole net other number width r s → is_state s ≡ true → IsRole other.leaves other.nodes signed width s → TakesAlike net other r s
  takes_alike width signed (role.Register a) (role.Register b) h is own_role =
      registers a b (resets_alike width a.reset b.reset h.reset) (drivers_alike width a.next b.next h.next)
      (clocks_alike b.clock a.clock h.clock (has_clock net other number R whole own its b.clock own_role.0))
  takes_alike width signed (role.Pipe p) (role.Pipe q) h is own_role =
      pipes p q (clocks_alike q.clock p.clock h.clock (has_clock net other number R whole own its q.clock own_role.0))
  takes_alike width signed role.Input role.Input h is own_role = cc
  takes_alike width signed role.Clock role.Clock h is own_role = cc
  takes_alike width signed (role.Output r) (role.Output s) h is own_role = cc
  takes_alike width signed (role.Wire r) (role.Wire s) h is own_role = cc
  takes_alike width signed (role.Reading r) (role.Reading s) h is own_role = cc
  takes_alike width signed (role.ClockOutput c) (role.ClockOutput d) h is own_role = cc
  takes_alike width signed (role.ClockWire c) (role.ClockWire d) h is own_role = cc
  takes_alike width signed _ _ h is own_role = absurd h

  word_alike : (n j : ℕ) → slice_get other.state n ≡ Some j → (k : ℕ) × (slice_get net.state n ≡ Some k) × IsAlikeWord net other k j
  word_alike n j e =
      let m = word_at R.whole.state n j e in
      let x = R.leaves j m.leaf m.at in
      let role_is = (all_there (IsLeaf other.leaves other.nodes) other.leaves R.whole.leaves j m.leaf m.at).driven in
      let at_own = subst (λ (w : ℕ). IsRole other.leaves other.nodes m.leaf.signed w m.leaf.role) x.2.width role_is in (
        number j,
        state_at net other number R whole n j e,
        record {
          leaf = x.0;
          is = x.1;
          beside = m.leaf;
          is_beside = m.at;
          alike = takes_alike x.0.width m.leaf.signed x.0.role m.leaf.role x.2.role m.is at_own;
        },
      )

  equivalent : IsEquivalent net other
  equivalent = record {
    whole = R.whole;
    names = names_there net other number R;
    writable = writable_there net other number R;
    name = R.name;
    rows = rows_same net other number R whole;
    words = net_words_same net other number R whole;
    arrays = array_rows_same net other number R;
    shapes = shapes net other number R whole;
    output_widths = output_widths net other number R whole;
    allows = allows_same net other number R whole own its;
    alike = word_alike;
  }

pub rewritten : OrderedHasOne → RewrittenIsEquivalent
rewritten law net other number order later whole is_order is_later R =
    equivalent net other number R whole (law net order whole is_order) (law other later R.whole is_later)

module _ (net other last : FlatNet) (first : IsEquivalent net other) (second : IsEquivalent other last) where
  alike_through : (p q s : Role) → TakesAlike net other p q → TakesAlike other last q s → TakesAlike net last p s
  alike_through _ _ _ (registers r s resets nexts clocks) (registers _ u more_resets more_nexts more_clocks) =
      registers r u (both_ways more_resets resets) (both_ways more_nexts nexts) (both_ways more_clocks clocks)
  alike_through _ _ _ (pipes p q clocks) (pipes _ u more_clocks) = pipes p u (both_ways more_clocks clocks)

  word_through : (n i : ℕ) → slice_get last.state n ≡ Some i → (k : ℕ) × (slice_get net.state n ≡ Some k) × IsAlikeWord net last k i
  word_through n i e =
      let x = second.alike n i e in
      let y = first.alike n x.0 x.1 in
      let a = x.2 in
      let b = y.2 in
      let same : a.leaf ≡ b.beside = same_Some a.leaf b.beside (sym a.is ∙ b.is_beside) in (
        y.0,
        y.1,
        record {
          leaf = b.leaf;
          is = b.is;
          beside = a.beside;
          is_beside = a.is_beside;
          alike = alike_through b.leaf.role b.beside.role a.beside.role b.alike (subst (λ (l : Leaf). TakesAlike other last l.role a.beside.role) same a.alike);
        },
      )

  through : IsEquivalent net last
  through = record {
    whole = second.whole;
    names = λ h. second.names (first.names h);
    writable = λ h. second.writable (first.writable h);
    name = second.name ∙ first.name;
    rows = second.rows ∙ first.rows;
    words = second.words ∙ first.words;
    arrays = second.arrays ∙ first.arrays;
    shapes = second.shapes ∙ first.shapes;
    output_widths = second.output_widths ∙ first.output_widths;
    allows = λ state tick shown clocks after. both_ways (second.allows state tick shown clocks after) (first.allows state tick shown clocks after);
    alike = word_through;
  }

pub of_equivalent : EquivalentOfEquivalent
of_equivalent net other last first second = through net other last first second
