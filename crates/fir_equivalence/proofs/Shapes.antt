-- The shape of a net that is another one written anew, the widths of its outputs and the words of its state are that one's.
use Rattle.std.proofs.Common.{◌≡◌, ℕ, suc, List, [], ◌∷◌, ◌++◌, length, map, flat_map, true, false, Bool, refl, sym, ap, ◌∙◌, option_map}
use Rattle.std.specs.Prelude.{slice_get, Some}
use Rattle.std.proofs.lemmas.Option.{slice_get-map}
use Rattle.fir_net.specs.declared.leaf.Leaf.{Leaf}
use Rattle.fir_net.specs.declared.leaf.Role.{Role}
use Rattle.fir_net.specs.declared.net.FlatNet.{FlatNet}
use Rattle.fir_net.specs.Paths.{base_name}
use Rattle.fir_net.specs.Rows.{word}
use Rattle.fir_net.specs.working.Arrays.{array_widths}
use Rattle.fir_net.specs.working.IsNet.{IsNet, is_port}
use Rattle.fir_net.specs.working.Rows.{leaf_word, net_words}
use Rattle.fir_net.specs.working.Settled.{clocks, input_number, inputs, numbers_by, output_number, outputs, shape}
use Rattle.fir_net.specs.working.Values.{leaf_width}
use Rattle.fir_net.proofs.NumberedLeaves.{leaf_at}
use Rattle.fir_net.proofs.Places.{map_at}
use Rattle.fir_net.proofs.WholeValues.{width_at}
use Rattle.fir_equivalence.specs.working.Rewrites.{IsSameLeaf, Rewrites}
use Rattle.fir_equivalence.proofs.Arrays.{array_widths_same}
use Rattle.fir_equivalence.proofs.Ports.{clocks_same, inputs_same, outputs_same, twins}
use Rattle.fir_equivalence.proofs.Roles.{GivesPorts, inputs_give, outputs_give}

pub map_along : {A B C : Type 0} → (f : A → C) (g : B → C) (h : A → B) (xs : List A) → ((n : ℕ) (x : A) → slice_get xs n ≡ Some x → f x ≡ g (h x)) → map f xs ≡ map g (map h xs)
map_along f g h [] e = refl
map_along f g h (x ∷ xs) e = rw (e 0 x refl, map_along f g h xs (λ n y at. e (suc n) y at)) refl

flat_along : {A B C : Type 0} → (f : A → List C) (g : B → List C) (h : A → B) (xs : List A) → ((n : ℕ) (x : A) → slice_get xs n ≡ Some x → f x ≡ g (h x)) → flat_map f xs ≡ flat_map g (map h xs)
flat_along f g h [] e = refl
flat_along f g h (x ∷ xs) e = rw (e 0 x refl, flat_along f g h xs (λ n y at. e (suc n) y at)) refl

module _ (net other : FlatNet) (number : ℕ → ℕ) (R : Rewrites net other number) (whole : IsNet net) where
  -- what gives a port's number is a port
  gives_port : (f : Role → ℕ → ℕ → List ℕ) → GivesPorts f → (r : Role) (w k : ℕ) → f r w k ≡ k ∷ [] → is_port r ≡ true
  gives_port f gives r w k e = by (is_port r) refl
    where
      by : (b : Bool) → is_port r ≡ b → is_port r ≡ true
      by true is = is
      by false is = let none = gives.none r w k is in cc

  -- the port of a number, in both nets
  pub record PortAt (k : ℕ) : Type 0 where
    pub leaf : Leaf
    pub at : slice_get net.leaves k ≡ Some leaf
    pub twin : Leaf
    pub at_twin : slice_get other.leaves k ≡ Some twin
    pub same : IsSameLeaf net other number leaf twin
    pub stays : number k ≡ k

  pub port_at : (f : Role → ℕ → ℕ → List ℕ) → GivesPorts f → (n k : ℕ) → slice_get (numbers_by f 0 net.leaves) n ≡ Some k → PortAt k
  port_at f gives n k e =
      let l = leaf_at f gives.own net.leaves n k e in
      let port = gives_port f gives l.0.role l.0.width k l.2 in
      let m = (twins net other number R).down k l.0 l.1 port in
      record { leaf = l.0; at = l.1; twin = m.0; at_twin = m.1; same = m.2; stays = (R.ports k l.0 l.1 port).1 }

  port_width : (f : Role → ℕ → ℕ → List ℕ) → GivesPorts f → (n k : ℕ) → slice_get (numbers_by f 0 net.leaves) n ≡ Some k → leaf_width other.leaves k ≡ leaf_width net.leaves k
  port_width f gives n k e =
      let p = port_at f gives n k e in
      width_at other.leaves k p.twin p.at_twin ∙ p.same.width ∙ sym (width_at net.leaves k p.leaf p.at)

  -- the word of the state in the other net
  pub state_at : (n k : ℕ) → slice_get other.state n ≡ Some k → slice_get net.state n ≡ Some (number k)
  state_at n k e = ap (λ (ks : List ℕ). slice_get ks n) (sym R.state) ∙ slice_get-map number other.state n ∙ ap (option_map number) e

  width_kept : (n k : ℕ) → slice_get other.state n ≡ Some k → leaf_width other.leaves k ≡ leaf_width net.leaves (number k)
  width_kept n k e =
      let m = R.whole.state.only n k e in
      let x = R.leaves k m.0 m.1 in
      width_at other.leaves k m.0 m.1 ∙ x.2.width ∙ sym (width_at net.leaves (number k) x.0 x.1)

  pub output_widths : map (leaf_width other.leaves) (outputs other) ≡ map (leaf_width net.leaves) (outputs net)
  output_widths =
      ap (map (leaf_width other.leaves)) (outputs_same net other number R whole)
      ∙ map_at (leaf_width other.leaves) (leaf_width net.leaves) (outputs net) (port_width output_number outputs_give)

  input_widths : map (leaf_width other.leaves) (inputs other) ≡ map (leaf_width net.leaves) (inputs net)
  input_widths =
      ap (map (leaf_width other.leaves)) (inputs_same net other number R whole)
      ∙ map_at (leaf_width other.leaves) (leaf_width net.leaves) (inputs net) (port_width input_number inputs_give)

  state_widths : map (leaf_width other.leaves) other.state ≡ map (leaf_width net.leaves) net.state
  state_widths =
      map_along (leaf_width other.leaves) (leaf_width net.leaves) number other.state width_kept
      ∙ ap (map (leaf_width net.leaves)) R.state

  pub shapes : shape other ≡ shape net
  shapes =
      let clock_count : length (clocks other) ≡ length (clocks net) = ap (length {A = ℕ}) (clocks_same net other number R whole) in
      let words : map (leaf_width other.leaves) other.state ++ array_widths other ≡ map (leaf_width net.leaves) net.state ++ array_widths net =
      ap (λ (ws : List ℕ). ws ++ array_widths other) state_widths ∙ ap (λ (ws : List ℕ). map (leaf_width net.leaves) net.state ++ ws) (array_widths_same net other number R) in
      λ i. record { inputs = input_widths i; clocks = clock_count i; state = words i }

  word_beside : (l m : Leaf) → IsSameLeaf net other number l m → leaf_word (Some m) ≡ leaf_word (Some l)
  word_beside l m s = ap (λ (path : List ℕ). word (base_name path) m.width) s.path ∙ ap (word (base_name l.path)) s.width

  pub net_words_same : net_words other ≡ net_words net
  net_words_same =
      flat_along (λ (k : ℕ). leaf_word (slice_get other.leaves k)) (λ (k : ℕ). leaf_word (slice_get net.leaves k)) number other.state each
      ∙ ap (flat_map (λ (k : ℕ). leaf_word (slice_get net.leaves k))) R.state
    where
      each : (n k : ℕ) → slice_get other.state n ≡ Some k → leaf_word (slice_get other.leaves k) ≡ leaf_word (slice_get net.leaves (number k))
      each n k e =
          let m = R.whole.state.only n k e in
          let x = R.leaves k m.0 m.1 in
          ap leaf_word m.1 ∙ word_beside x.0 m.0 x.2 ∙ sym (ap leaf_word x.1)
