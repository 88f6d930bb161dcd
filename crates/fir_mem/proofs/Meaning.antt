-- A net whose pipes are registers allows at every tick what the net allows: its settled values are those of the net, with what is read at once in the places of
-- pipes beside them.
use Rattle.std.proofs.Common.{◌≡◌, ◌↔◌, ℕ, suc, ◌+◌, ◌<◌, ◌≤◌, ◌^◌, List, [], ◌∷◌, ◌++◌, length, map, flat_map, Bool, true, false, nat_eq, nat_lt, if◌then◌else◌, refl, sym, ap, ◌∙◌, subst, arith, ◌⊎◌, inl, inr, unwrap_or, option_map}
use Rattle.std.specs.Prelude.{slice_get, slice_index, Option, Some, None}
use Rattle.std.specs.List.{AllByRecursion}
use Rattle.std.proofs.lemmas.Bool.{le-ltb, lt-ltb}
use Rattle.std.proofs.lemmas.Option.{slice_get_within}
use Rattle.fir_base.proofs.Elements.{all_there}
use Rattle.fir_base.specs.Ticks.{HasShape, Shape, Tick}
use Rattle.fir_bits.specs.declared.values.Num.{Num}
use Rattle.fir_net.specs.declared.array.Array.{Array}
use Rattle.fir_net.specs.declared.array.ArrayRead.{ArrayRead}
use Rattle.fir_net.specs.declared.array.ArrayWrite.{ArrayWrite}
use Rattle.fir_net.specs.declared.array.Pipe.{Pipe}
use Rattle.fir_net.specs.declared.leaf.Leaf.{Leaf}
use Rattle.fir_net.specs.declared.leaf.Register.{Register}
use Rattle.fir_net.specs.declared.leaf.Role.{Role}
use Rattle.fir_net.specs.declared.leaf.Role.TheVariants as role
use Rattle.fir_net.specs.declared.net.FlatNet.{FlatNet}
use Rattle.fir_net.specs.declared.reads.Read.{Read}
use Rattle.fir_net.specs.working.Allows.{Allows}
use Rattle.fir_net.specs.working.Arrays.{array_widths}
use Rattle.fir_net.specs.working.IsNet.{CanRead, IsArray, IsArrayWrite, IsLeaf, IsNet, IsRole}
use Rattle.fir_net.specs.working.IsOrder.{IsOrder}
use Rattle.fir_net.specs.working.IsWritable.{IsWritable, of_pipe, of_write}
use Rattle.fir_net.specs.working.Laws.{NodesHaveTheirTypes, NodesHaveTheirValues}
use Rattle.fir_net.specs.working.Next.{arrays_next, next, next_by, next_of, next_word, piped, taken, taken_with, ticks, words_next}
use Rattle.fir_net.specs.working.Rows.{leaf_word, net_words}
use Rattle.fir_net.specs.working.Settled.{Settled, clock_driver, clock_number, clock_output_number, clock_outputs, clocks, driver, input_number, driven_clock, inputs, is_clock, numbers_by, output_number, outputs, shape, shown, value_at, word_read}
use Rattle.fir_net.specs.working.Values.{at_width, leaf_width}
use Rattle.fir_net.proofs.ArrayWords.{read_fits}
use Rattle.fir_net.proofs.NumberedLeaves.{GivesOwn, inputs_own, leaf_at}
use Rattle.fir_clock_root.specs.working.ClockRoots.{RootIsClock}
use Rattle.fir_mem.specs.working.Built.{Built, register_of}
use Rattle.fir_mem.specs.working.Lowers.{HasClock}
use Rattle.fir_mem.proofs.Building.{Becomes, Building, IsHidden, Takes, itself, net_of, register}
use Rattle.fir_mem.proofs.Choices.{Acts, takes_value}
use Rattle.fir_mem.proofs.Clocks.{never_ticks, same_clock}
use Rattle.fir_mem.proofs.Growth.{Grown, each_all}
use Rattle.fir_mem.proofs.Lists.{same_numbers, same_width}
use Rattle.fir_mem.proofs.Lowered.{Done, Origin, behind, from, grown, leads_along, no_pipe, origin, whole_lowered}
use Rattle.fir_mem.proofs.SameValues.{Extends, arrays_same, same, shown_same, taken_same, with_same, word_read_same}

-- two functions that agree on the elements of a list
map_at : {A : Type 0} → (f g : ℕ → A) (xs : List ℕ) → ((n k : ℕ) → slice_get xs n ≡ Some k → f k ≡ g k) → map f xs ≡ map g xs
map_at f g [] h = refl
map_at f g (x ∷ xs) h = rw (h 0 x refl, map_at f g xs (λ n k e. h (n + 1) k (ap (λ (i : ℕ). slice_get (x ∷ xs) i) (by n) ∙ e))) refl
  where
    by : (n : ℕ) → n + 1 ≡ suc n
    by n = omega arith

flat_at : {A : Type 0} → (f g : ℕ → List A) (xs : List ℕ) → ((n k : ℕ) → slice_get xs n ≡ Some k → f k ≡ g k) → flat_map f xs ≡ flat_map g xs
flat_at f g [] h = refl
flat_at f g (x ∷ xs) h = rw (h 0 x refl, flat_at f g xs (λ n k e. h (n + 1) k (ap (λ (i : ℕ). slice_get (x ∷ xs) i) (by n) ∙ e))) refl
  where
    by : (n : ℕ) → n + 1 ≡ suc n
    by n = omega arith

outputs_own : GivesOwn output_number
outputs_own = record { each = own }
  where
    bits : (b : Bool) (k : ℕ) → ((if b then [] else (k ∷ [])) ≡ []) ⊎ ((if b then [] else (k ∷ [])) ≡ k ∷ [])
    bits true k = inl refl
    bits false k = inr refl

    own : (r : Role) (w k : ℕ) → (output_number r w k ≡ []) ⊎ (output_number r w k ≡ k ∷ [])
    own role.Input w k = inl refl
    own role.Clock w k = inl refl
    own (role.Output r) w k = bits (nat_eq w 0) k
    own (role.Wire r) w k = inl refl
    own (role.Register r) w k = inl refl
    own (role.Reading r) w k = inl refl
    own (role.Pipe r) w k = inl refl
    own (role.ClockOutput r) w k = inl refl
    own (role.ClockWire r) w k = inl refl

module _ (net : FlatNet) (order : List Read) (whole : IsNet net) (b : Built) (B : Building net order b) (done : Done net b) where
  abbrev lowered : FlatNet
  lowered = net_of net b

  width_kept : (k : ℕ) (l : Leaf) → slice_get net.leaves k ≡ Some l → leaf_width b.leaves k ≡ leaf_width net.leaves k
  width_kept k l at =
      let x = B.kept k l at in
      ap (λ (o : Option Leaf). unwrap_or (option_map (λ (m : Leaf). m.width) o) 0) x.1 ∙ same_width net b.leaves b.nodes l x.0 x.2
      ∙ sym (ap (λ (o : Option Leaf). unwrap_or (option_map (λ (m : Leaf). m.width) o) 0) at)

  numbers_same : (number : Role → ℕ → ℕ → List ℕ) → ((w k : ℕ) (l : Leaf) (p : Pipe) (n : Read) → number (role.Pipe p) w k ≡ number (register_of l p n).role w k)
      → ((r : ArrayRead) (w k : ℕ) → number (role.Reading r) w k ≡ []) → numbers_by number 0 b.leaves ≡ numbers_by number 0 net.leaves
  numbers_same number blind none = same_numbers net b.leaves b.nodes number blind none 0 net.leaves b.leaves (leads_along net order whole b B done)

  inputs_same : inputs lowered ≡ inputs net
  inputs_same = numbers_same input_number (λ w k l p n. refl) (λ r w k. refl)

  clocks_same : clocks lowered ≡ clocks net
  clocks_same = numbers_same clock_number (λ w k l p n. refl) (λ r w k. refl)

  outputs_same : outputs lowered ≡ outputs net
  outputs_same = numbers_same output_number (λ w k l p n. refl) (λ r w k. refl)

  clock_outputs_same : clock_outputs lowered ≡ clock_outputs net
  clock_outputs_same = numbers_same clock_output_number (λ w k l p n. refl) (λ r w k. refl)

  pub shapes : shape lowered ≡ shape net
  shapes =
      let widths : map (leaf_width b.leaves) (inputs lowered) ≡ map (leaf_width net.leaves) (inputs net) =
      ap (map (leaf_width b.leaves)) inputs_same
      ∙ map_at (leaf_width b.leaves) (leaf_width net.leaves) (inputs net) (λ n k e. let x = leaf_at input_number inputs_own net.leaves n k e in width_kept k x.0 x.1) in
      let words : map (leaf_width b.leaves) net.state ≡ map (leaf_width net.leaves) net.state =
      map_at (leaf_width b.leaves) (leaf_width net.leaves) net.state (λ n k e. let x = whole.state.only n k e in width_kept k x.0 x.1) in
      ap (λ (i : List ℕ). record { inputs = i; clocks = length (clocks lowered); state = map (leaf_width b.leaves) net.state ++ array_widths net }) widths
      ∙ ap (λ (c : List ℕ). record { inputs = map (leaf_width net.leaves) (inputs net); clocks = length c; state = map (leaf_width b.leaves) net.state ++ array_widths net }) clocks_same
      ∙ ap (λ (w : List ℕ). record { inputs = map (leaf_width net.leaves) (inputs net); clocks = length (clocks net); state = w ++ array_widths net }) words

  pub words_same : net_words lowered ≡ net_words net
  words_same = flat_at (λ k. leaf_word (slice_get b.leaves k)) (λ k. leaf_word (slice_get net.leaves k)) net.state each
    where
      row : (l m : Leaf) → Becomes net b.leaves b.nodes l m → leaf_word (Some m) ≡ leaf_word (Some l)
      row l _ itself = refl
      row l _ (register p next is can takes) = refl

      each : (n k : ℕ) → slice_get net.state n ≡ Some k → leaf_word (slice_get b.leaves k) ≡ leaf_word (slice_get net.leaves k)
      each n k e =
          let l = whole.state.only n k e in
          let x = B.kept k l.0 l.1 in
          ap leaf_word x.1 ∙ row l.0 x.0 x.2 ∙ sym (ap leaf_word l.1)

  role_is : (k : ℕ) (l : Leaf) (r : Role) → slice_get net.leaves k ≡ Some l → l.role ≡ r → IsRole net.leaves net.nodes l.signed l.width r
  role_is k l r at is = subst (IsRole net.leaves net.nodes l.signed l.width) is (all_there (IsLeaf net.leaves net.nodes) net.leaves whole.leaves k l at).driven

  -- a leaf that is no pipe stays, and a pipe becomes a register
  pub still : (k : ℕ) (l : Leaf) → slice_get net.leaves k ≡ Some l → ((p : Pipe) → l.role ≡ role.Pipe p → ⊥) → slice_get b.leaves k ≡ Some l
  still k l at bare = let x = B.kept k l at in by x.0 x.1 x.2
    where
      by : (m : Leaf) → slice_get b.leaves k ≡ Some m → Becomes net b.leaves b.nodes l m → slice_get b.leaves k ≡ Some l
      by _ e itself = e
      by _ e (register p next is can takes) = absurd (bare p is)

  pub record Replaced (k : ℕ) (l : Leaf) (p : Pipe) : Type 0 where
    pub next : Read
    pub at : slice_get b.leaves k ≡ Some (register_of l p next)
    pub takes : Takes net b.leaves b.nodes l p next

  pub replaced : (k : ℕ) (l : Leaf) (p : Pipe) → slice_get net.leaves k ≡ Some l → l.role ≡ role.Pipe p → Replaced k l p
  replaced k l p at is = let x = B.kept k l at in by x.0 x.1 x.2
    where
      same_pipe : (q : Pipe) → role.Pipe q ≡ role.Pipe p → q ≡ p
      same_pipe q e = cc

      by : (m : Leaf) → slice_get b.leaves k ≡ Some m → Becomes net b.leaves b.nodes l m → Replaced k l p
      by _ e itself = absurd (done.none k l p (slice_get_within net.leaves k l at) e is)
      by _ e (register q next was can takes) = subst (Replaced k l) (same_pipe q (sym was ∙ is)) (record { next = next; at = e; takes = takes })

  can_drive : (s : Bool) (w : ℕ) (r : Role) (d : Read) → IsRole net.leaves net.nodes s w r → driver r ≡ Some d → CanRead net.leaves net.nodes d
  can_drive s w role.Input d h e = cc
  can_drive s w role.Clock d h e = cc
  can_drive s w (role.Output r) d h e = let same_read : r ≡ d = cc in subst (CanRead net.leaves net.nodes) same_read h.can
  can_drive s w (role.Wire r) d h e = let same_read : r ≡ d = cc in subst (CanRead net.leaves net.nodes) same_read h.can
  can_drive s w (role.Register r) d h e = cc
  can_drive s w (role.Reading r) d h e = cc
  can_drive s w (role.Pipe r) d h e = cc
  can_drive s w (role.ClockOutput r) d h e = cc
  can_drive s w (role.ClockWire r) d h e = cc

  not_pipe : {A : Type 0} → (f : Role → Option A) → ((p : Pipe) → f (role.Pipe p) ≡ None) → (l : Leaf) (x : A) → f l.role ≡ Some x → (p : Pipe) → l.role ≡ role.Pipe p → ⊥
  not_pipe f none l x e p is = let clash : None ≡ Some x = sym (none p) ∙ sym (ap f is) ∙ e in cc

  -- ---- settled values of the lowered net are settled values of the net
  module _ (state : List ℕ) (tick : Tick) (env : ℕ → ℕ) (clock : ℕ → Option ℕ) (t : Settled lowered state tick env clock) where
    e : Extends net env env
    e = record { same = λ k l at. refl }

    g : Grown net.leaves net.nodes b.leaves b.nodes
    g = grown net order whole b B done

    fits_down : (k : ℕ) (l : Leaf) → slice_get net.leaves k ≡ Some l → is_clock l.role ≡ false → env k < 2 ^ l.width
    fits_down k l at plain = let x = B.kept k l at in by x.0 x.1 x.2
      where
        by : (m : Leaf) → slice_get b.leaves k ≡ Some m → Becomes net b.leaves b.nodes l m → env k < 2 ^ l.width
        by _ f itself = t.fits k l f plain
        by _ f (register p next is can takes) = t.fits k (register_of l p next) f refl

    pub down : Settled net state tick env clock
    down = record {
      shaped = subst (λ (s : Shape). HasShape s state tick) shapes t.shaped;
      fits = fits_down;
      input_values = ap (map env) (sym inputs_same) ∙ t.input_values;
      registers_show = λ n k l r f at is.
          t.registers_show n k l r f (still k l at (λ p was. let clash : role.Register r ≡ role.Pipe p = sym is ∙ was in cc)) is
          ∙ shown_same net order whole b B g env env e l.signed l.width r.reset (slice_index state n) (role_is k l (role.Register r) at is).1;
      pipes_show = λ n k l p f at is.
          let x = replaced k l p at is in
          t.registers_show n k (register_of l p x.next) (record { clock = p.clock; reset = None; next = Some x.next }) f x.at refl;
      arrays_read = λ k l r at is.
          t.arrays_read k l r (still k l at (λ p was. let clash : role.Reading r ≡ role.Pipe p = sym is ∙ was in cc)) is
          ∙ word_read_same net order whole b B g env env e state r (role_is k l (role.Reading r) at is);
      driven = λ k l r at f.
          t.driven k l r (still k l at (not_pipe driver (λ p. refl) l r f)) f
          ∙ ap (λ (v : Num). at_width v l.width) (same net order whole b B g env env e r (can_drive l.signed l.width l.role r (role_is k l l.role at refl) f));
      clock_inputs = λ n k f. t.clock_inputs n k (ap (λ (ks : List ℕ). slice_get ks n) clocks_same ∙ f);
      clocks_driven = λ k l c at f. t.clocks_driven k l c (still k l at (not_pipe clock_driver (λ p. refl) l c f)) f;
    }

  -- ---- settled values of the net, with what is read in the places of pipes
  hidden_value : List ℕ → (ℕ → ℕ) → Role → ℕ
  hidden_value state env (role.Reading r) = word_read net state env r
  hidden_value state env _ = 0

  hidden_at : List ℕ → (ℕ → ℕ) → Option Leaf → ℕ
  hidden_at state env None = 0
  hidden_at state env (Some m) = hidden_value state env m.role

  pub extended : List ℕ → (ℕ → ℕ) → ℕ → ℕ
  extended state env k = if nat_lt k (length net.leaves) then env k else hidden_at state env (slice_get b.leaves k)

  pub extends : (state : List ℕ) (env : ℕ → ℕ) → Extends net env (extended state env)
  unfolding extended
  extends state env = record {
    same = λ k l at.
        let test = lt-ltb k (length net.leaves) (slice_get_within net.leaves k l at) in
        rw test refl;
  }

  module _ (state : List ℕ) (tick : Tick) (env : ℕ → ℕ) (clock : ℕ → Option ℕ) (s : Settled net state tick env clock) where
    x : Extends net env (extended state env)
    x = extends state env

    grows : Grown net.leaves net.nodes b.leaves b.nodes
    grows = grown net order whole b B done

    hidden_is : (k : ℕ) (m : Leaf) → slice_get b.leaves k ≡ Some m → length net.leaves ≤ k → (h : IsHidden net m) → extended state env k ≡ word_read net state env h.pipe.read
    unfolding extended hidden_at hidden_value
    hidden_is k m at high h =
        let test = le-ltb k (length net.leaves) high in
        rw test (ap (hidden_at state env) at ∙ ap (λ (y : Leaf). hidden_value state env y.role) h.is)

    fits_up : (k : ℕ) (m : Leaf) → slice_get b.leaves k ≡ Some m → is_clock m.role ≡ false → extended state env k < 2 ^ m.width
    fits_up k m at plain = by (origin net order whole b B done k m at)
      where
        of : (l : Leaf) → slice_get net.leaves k ≡ Some l → (y : Leaf) → Becomes net b.leaves b.nodes l y → is_clock y.role ≡ false → env k < 2 ^ y.width
        of l there _ itself bare = s.fits k l there bare
        of l there _ (register p next is can takes) bare = s.fits k l there (ap is_clock is)

        by : Origin net order whole b B done k m → extended state env k < 2 ^ m.width
        by (from l there leads) = subst (λ (v : ℕ). v < 2 ^ m.width) (sym (x.same k l there)) (of l there m leads plain)
        by (behind high h) =
            subst (λ (v : ℕ). v < 2 ^ m.width) (sym (hidden_is k m at high h))
            (subst (λ (y : Leaf). word_read net state env h.pipe.read < 2 ^ y.width) (sym h.is)
            (read_fits net state s.shaped.state_fits env h.pipe.read h.leaf (whole.pipes h.number h.leaf h.pipe h.at h.is_pipe)))

    registers_up : (n k : ℕ) (m : Leaf) (r : Register) → slice_get net.state n ≡ Some k → slice_get b.leaves k ≡ Some m → m.role ≡ role.Register r
        → extended state env k ≡ shown lowered (extended state env) m.width r.reset (slice_index state n)
    registers_up n k m r f at is = by (origin net order whole b B done k m at)
      where
        reset_none : (own : Register) → role.Register own ≡ role.Register r → r.reset ≡ own.reset
        reset_none own e = cc

        of : (l : Leaf) → slice_get net.leaves k ≡ Some l → (y : Leaf) → Becomes net b.leaves b.nodes l y → y.role ≡ role.Register r → env k ≡ shown lowered (extended state env) y.width r.reset (slice_index state n)
        of l there _ itself was =
            s.registers_show n k l r f there was
            ∙ sym (shown_same net order whole b B grows env (extended state env) x l.signed l.width r.reset (slice_index state n) (role_is k l (role.Register r) there was).1)
        of l there _ (register p next was can takes) now =
            let none = reset_none (record { clock = p.clock; reset = None; next = Some next }) now in
            rw none (s.pipes_show n k l p f there was)

        by : Origin net order whole b B done k m → extended state env k ≡ shown lowered (extended state env) m.width r.reset (slice_index state n)
        by (from l there leads) = x.same k l there ∙ of l there m leads is
        by (behind high h) = let clash : role.Reading h.pipe.read ≡ role.Register r = sym (ap (λ (y : Leaf). y.role) h.is) ∙ is in cc

    arrays_up : (k : ℕ) (m : Leaf) (r : ArrayRead) → slice_get b.leaves k ≡ Some m → m.role ≡ role.Reading r → extended state env k ≡ word_read lowered state (extended state env) r
    arrays_up k m r at is = by (origin net order whole b B done k m at)
      where
        of : (l : Leaf) → slice_get net.leaves k ≡ Some l → (y : Leaf) → Becomes net b.leaves b.nodes l y → y.role ≡ role.Reading r → env k ≡ word_read lowered state (extended state env) r
        of l there _ itself was =
            s.arrays_read k l r there was ∙ sym (word_read_same net order whole b B grows env (extended state env) x state r (role_is k l (role.Reading r) there was))
        of l there _ (register p next was can takes) now = cc

        same_reading : (q : ArrayRead) → role.Reading q ≡ role.Reading r → q ≡ r
        same_reading q e = cc

        by : Origin net order whole b B done k m → extended state env k ≡ word_read lowered state (extended state env) r
        by (from l there leads) = x.same k l there ∙ of l there m leads is
        by (behind high h) =
            let same_read : h.pipe.read ≡ r = same_reading h.pipe.read (sym (ap (λ (y : Leaf). y.role) h.is) ∙ is) in
            hidden_is k m at high h
            ∙ sym (word_read_same net order whole b B grows env (extended state env) x state h.pipe.read (role_is h.number h.leaf (role.Pipe h.pipe) h.at h.is_pipe).1)
            ∙ ap (word_read lowered state (extended state env)) same_read

    driven_up : (k : ℕ) (m : Leaf) (r : Read) → slice_get b.leaves k ≡ Some m → driver m.role ≡ Some r → extended state env k ≡ at_width (value_at lowered (extended state env) r) m.width
    driven_up k m r at is = by (origin net order whole b B done k m at)
      where
        of : (l : Leaf) → slice_get net.leaves k ≡ Some l → (y : Leaf) → Becomes net b.leaves b.nodes l y → driver y.role ≡ Some r → env k ≡ at_width (value_at lowered (extended state env) r) y.width
        of l there _ itself was =
            s.driven k l r there was
            ∙ sym (ap (λ (v : Num). at_width v l.width) (same net order whole b B grows env (extended state env) x r (can_drive l.signed l.width l.role r (role_is k l l.role there refl) was)))
        of l there _ (register p next was can takes) now = cc

        by : Origin net order whole b B done k m → extended state env k ≡ at_width (value_at lowered (extended state env) r) m.width
        by (from l there leads) = x.same k l there ∙ of l there m leads is
        by (behind high h) = let clash : None ≡ Some r = sym (ap (λ (y : Leaf). driver y.role) h.is) ∙ is in cc

    clocks_up : (k : ℕ) (m : Leaf) (c : Option ℕ) → slice_get b.leaves k ≡ Some m → clock_driver m.role ≡ Some c → clock k ≡ driven_clock clock c
    clocks_up k m c at is = by (origin net order whole b B done k m at)
      where
        of : (l : Leaf) → slice_get net.leaves k ≡ Some l → (y : Leaf) → Becomes net b.leaves b.nodes l y → clock_driver y.role ≡ Some c → clock k ≡ driven_clock clock c
        of l there _ itself was = s.clocks_driven k l c there was
        of l there _ (register p next was can takes) now = cc

        by : Origin net order whole b B done k m → clock k ≡ driven_clock clock c
        by (from l there leads) = of l there m leads is
        by (behind high h) = let clash : None ≡ Some c = sym (ap (λ (y : Leaf). clock_driver y.role) h.is) ∙ is in cc

    env_at : (number : Role → ℕ → ℕ → List ℕ) → GivesOwn number → map (extended state env) (numbers_by number 0 net.leaves) ≡ map env (numbers_by number 0 net.leaves)
    env_at number own =
        map_at (extended state env) env (numbers_by number 0 net.leaves) (λ n k f. let y = leaf_at number own net.leaves n k f in x.same k y.0 y.1)

    pub outputs_up : map (extended state env) (outputs lowered) ≡ map env (outputs net)
    outputs_up = ap (map (extended state env)) outputs_same ∙ env_at output_number outputs_own

    pub up : Settled lowered state tick (extended state env) clock
    up = record {
      shaped = subst (λ (y : Shape). HasShape y state tick) (sym shapes) s.shaped;
      fits = fits_up;
      input_values = ap (map (extended state env)) inputs_same ∙ env_at input_number inputs_own ∙ s.input_values;
      registers_show = registers_up;
      pipes_show = λ n k m p f at is. absurd (no_pipe net order whole b B done k m p at is);
      arrays_read = arrays_up;
      driven = driven_up;
      clock_inputs = λ n k f. s.clock_inputs n k (ap (λ (ks : List ℕ). slice_get ks n) (sym clocks_same) ∙ f);
      clocks_driven = clocks_up;
    }

  -- ---- the state after a tick
  module _
      (nodes_values : NodesHaveTheirValues) (nodes_types : NodesHaveTheirTypes) (root_law : RootIsClock) (ordered : IsOrder net order) (writable : IsWritable net)
      (state : List ℕ) (tick : Tick) (env other : ℕ → ℕ) (clock : ℕ → Option ℕ) (e : Extends net env other)
      (s : Settled net state tick env clock) (t : Settled lowered state tick other clock) where
    own_grown : Grown net.leaves net.nodes b.leaves b.nodes
    own_grown = grown net order whole b B done

    -- how the writes of the array of a pipe act where its clock ticks
    acting : (k : ℕ) (l : Leaf) (p : Pipe) → slice_get net.leaves k ≡ Some l → l.role ≡ role.Pipe p → ticks tick.clocks (clock p.clock) ≡ true → (a : Array)
        → slice_get net.arrays p.read.array ≡ Some a → AllByRecursion (Acts net clock tick.clocks a.signed a.width) a.writes
    acting k l p at is ticking a array = each_all (Acts net clock tick.clocks a.signed a.width) a.writes each
      where
        writes : (i : ℕ) (w : ArrayWrite) → slice_get a.writes i ≡ Some w → IsArrayWrite net.leaves net.nodes a.signed a.width w
        writes i w f = all_there (IsArrayWrite net.leaves net.nodes a.signed a.width) a.writes (all_there (IsArray net.leaves net.nodes) net.arrays whole.arrays p.read.array a array).writes i w f

        each : (i : ℕ) (w : ArrayWrite) → slice_get a.writes i ≡ Some w → Acts net clock tick.clocks a.signed a.width w
        each i w f = record {
          write = writes i w f;
          acts = λ n root.
              same_clock net order whole ordered state tick env clock s root_law writable.clocks tick.clocks p.read.array w.clock p.clock n (of_write a i w array f)
              (of_pipe k l p at is refl) root (role_is k l (role.Pipe p) at is).0 ticking;
          rests = λ bare. never_ticks net order whole ordered state tick env clock s root_law writable.clocks tick.clocks w.clock (writes i w f).clock bare;
        }

    role_next : (k : ℕ) (l : Leaf) (r : Role) → slice_get net.leaves k ≡ Some l → l.role ≡ r → ((p : Pipe) → r ≡ role.Pipe p → ⊥)
        → next_by lowered other clock tick.clocks state l.width (other k) r ≡ next_by net env clock tick.clocks state l.width (env k) r
    role_next k l role.Input at is bare = e.same k l at
    role_next k l role.Clock at is bare = e.same k l at
    role_next k l (role.Output r) at is bare = e.same k l at
    role_next k l (role.Wire r) at is bare = e.same k l at
    role_next k l (role.Reading r) at is bare = e.same k l at
    role_next k l (role.ClockOutput r) at is bare = e.same k l at
    role_next k l (role.ClockWire r) at is bare = e.same k l at
    role_next k l (role.Pipe p) at is bare = absurd (bare p refl)
    role_next k l (role.Register r) at is bare =
        let h = role_is k l (role.Register r) at is in
        let c = ticks tick.clocks (clock r.clock) in
        ap (λ (now : ℕ). if c then taken_with lowered other l.width now r.reset (taken lowered other l.width now r.next) else now) (e.same k l at)
        ∙ ap (λ (v : ℕ). if c then taken_with lowered other l.width (env k) r.reset v else env k) (taken_same net order whole b B own_grown env other e l.signed l.width (env k) r.next h.2)
        ∙ ap (λ (v : ℕ). if c then v else env k) (with_same net order whole b B own_grown env other e l.signed l.width (env k) r.reset (taken net env l.width (env k) r.next) h.1)

    pipe_next : (k : ℕ) (l : Leaf) (p : Pipe) (next : Read) → slice_get net.leaves k ≡ Some l → l.role ≡ role.Pipe p → Takes net b.leaves b.nodes l p next → (c : Bool) → ticks tick.clocks (clock p.clock) ≡ c
        → (if c then at_width (value_at lowered other next) l.width else other k) ≡ (if c then piped net env clock tick.clocks state p else env k)
    pipe_next k l p next at is takes false f = e.same k l at
    pipe_next k l p next at is takes true f =
        takes_value nodes_values nodes_types net order whole b B own_grown (whole_lowered net order whole b B done) state tick env other clock tick.clocks e s t l p next
        (role_is k l (role.Pipe p) at is).1 (whole.pipes k l p at is) (acting k l p at is f) takes

    word_next : (n k : ℕ) → slice_get net.state n ≡ Some k → next_word lowered other clock tick.clocks state k ≡ next_word net env clock tick.clocks state k
    word_next n k f =
        let l = whole.state.only n k f in
        let y = B.kept k l.0 l.1 in
        by l.0 l.1 y.0 y.1 y.2
      where
        before : (l : Leaf) → slice_get net.leaves k ≡ Some l → next_of net env clock tick.clocks state (env k) (slice_get net.leaves k) ≡ next_by net env clock tick.clocks state l.width (env k) l.role
        before l at = ap (next_of net env clock tick.clocks state (env k)) at

        by : (l : Leaf) → slice_get net.leaves k ≡ Some l → (m : Leaf) → slice_get b.leaves k ≡ Some m → Becomes net b.leaves b.nodes l m
            → next_word lowered other clock tick.clocks state k ≡ next_word net env clock tick.clocks state k
        by l at _ there itself =
            ap (next_of lowered other clock tick.clocks state (other k)) there
            ∙ role_next k l l.role at refl (λ p is. done.none k l p (slice_get_within net.leaves k l at) there is) ∙ sym (before l at)
        by l at _ there (register p next is can takes) =
            ap (next_of lowered other clock tick.clocks state (other k)) there
            ∙ pipe_next k l p next at is takes (ticks tick.clocks (clock p.clock)) refl
            ∙ sym (ap (next_by net env clock tick.clocks state l.width (env k)) is) ∙ sym (before l at)

    pub next_same : next lowered state other clock tick ≡ next net state env clock tick
    next_same =
        ap (λ (ws : List ℕ). ws ++ arrays_next lowered other clock tick.clocks state)
        (map_at (next_word lowered other clock tick.clocks state) (next_word net env clock tick.clocks state) net.state word_next)
        ∙ ap (λ (ws : List ℕ). words_next net env clock tick.clocks state ++ ws) (arrays_same net order whole b B own_grown env other e clock tick.clocks state)

  module _ (nodes_values : NodesHaveTheirValues) (nodes_types : NodesHaveTheirTypes) (root_law : RootIsClock) (ordered : IsOrder net order) (writable : IsWritable net) where
    pub allows : (state : List ℕ) (tick : Tick) (shown : List ℕ) (named : List (Option ℕ)) (after : List ℕ) → Allows lowered state tick shown named after ↔ Allows net state tick shown named after
    allows state tick shown named after = (
      λ h.
          let env = h.0 in
          let clock = h.1 in
          let s = down state tick env clock h.2 in (
            env,
            clock,
            s,
            ap (map env) (sym outputs_same) ∙ h.3,
            ap (map clock) (sym clock_outputs_same) ∙ h.4,
            sym (next_same nodes_values nodes_types root_law ordered writable state tick env env clock (record { same = λ k l at. refl }) s h.2) ∙ h.5,
          ),
      λ h.
          let env = h.0 in
          let clock = h.1 in
          let t = up state tick env clock h.2 in (
            extended state env,
            clock,
            t,
            outputs_up state tick env clock h.2 ∙ h.3,
            ap (map clock) clock_outputs_same ∙ h.4,
            next_same nodes_values nodes_types root_law ordered writable state tick env (extended state env) clock (extends state env) h.2 t ∙ h.5,
          ),
    )

  pub has_clock : (k : ℕ) → HasClock lowered k ↔ HasClock net k
  has_clock k = (
    λ h state tick env clock s. h state tick (extended state env) clock (up state tick env clock s),
    λ h state tick env clock t. h state tick env clock (down state tick env clock t),
  )
