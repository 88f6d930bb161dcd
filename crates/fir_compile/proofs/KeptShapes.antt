-- The state after a tick has the net's shape.
use Rattle.std.proofs.Common.{◌≡◌, ℕ, suc, ◌^◌, ◌<◌, List, [], ◌∷◌, map, Bool, true, false, Option, Some, None, if◌then◌else◌, refl, sym, ap, subst, inl, inr, arith}
use Rattle.std.specs.Prelude.{slice_get, unwrap_or, option_map}
use Rattle.std.proofs.lemmas.Nat.{pow_pos}
use Rattle.fir_base.specs.Lists.{In}
use Rattle.fir_base.specs.Ticks.{Tick, FitEach}
use Rattle.fir_base.proofs.Elements.{number_of, all_there}
use Rattle.fir_net.specs.declared.array.Array.{Array}
use Rattle.fir_net.specs.declared.array.ArrayRead.{ArrayRead}
use Rattle.fir_net.specs.declared.array.ArrayWrite.{ArrayWrite}
use Rattle.fir_net.specs.declared.array.Pipe.{Pipe}
use Rattle.fir_net.specs.declared.reads.Read.{Read}
use Rattle.fir_net.specs.declared.leaf.ResetKind.{ResetKind}
use Rattle.fir_net.specs.declared.leaf.ResetKind.TheVariants.{Synchronous, Asynchronous}
use Rattle.fir_net.specs.declared.leaf.Reset.{Reset}
use Rattle.fir_net.specs.declared.leaf.Role.{Role}
use Rattle.fir_net.specs.declared.leaf.Role.TheVariants as role
use Rattle.fir_net.specs.declared.leaf.Leaf.{Leaf}
use Rattle.fir_net.specs.declared.net.FlatNet.{FlatNet}
use Rattle.fir_net.specs.working.Arrays.{array_widths, begin_of, word_in, word_width, words_of}
use Rattle.fir_net.specs.working.IsNet.{CanRead, CanBeDriven, CanBeReset, IsArray, IsArrayWrite, IsReadOf, IsRole, IsLeaf, IsNet}
use Rattle.fir_net.specs.working.Laws.{LeavesFit, NodesHaveTheirTypes}
use Rattle.fir_net.specs.working.Next.{taken, taken_under, taken_with, ticks, is_written, word_after, word_left, read_left, piped, next_by, next_of, next_word, words_next, arrays_next, next}
use Rattle.fir_net.specs.working.Settled.{Settled, shape, registers, value_at, is_high, is_read, word_read}
use Rattle.fir_net.specs.working.Values.{at_width, leaf_width}
use Rattle.fir_net.proofs.ArrayWords.{arrays_fit, word_fits, read_fits as array_read_fits}
use Rattle.fir_net.proofs.StateWords.{state_at, state_plain}
use Rattle.fir_net.proofs.WholeValues.{fit_below}
use Rattle.ver_ast.proofs.Starting.{fit_joined}

-- where each value fits, all do
fit_map : (w v : ℕ → ℕ) (ks : List ℕ) → ((k : ℕ) → In ks k → v k < 2 ^ w k) → FitEach (map w ks) (map v ks)
fit_map w v [] h = tt
fit_map w v (k ∷ ks) h = (h k (inl refl), fit_map w v ks (λ j m. h j (inr m)))

either : (b : Bool) (x y n : ℕ) → x < n → y < n → (if b then x else y) < n
either true x y n h k = h
either false x y n h k = k

module _ (types : NodesHaveTheirTypes) (net : FlatNet) (whole : IsNet net) (state : List ℕ) (tick : Tick) (env : ℕ → ℕ) (clock : ℕ → Option ℕ)
    (settled : Settled net state tick env clock) where
  leaves_fit : LeavesFit net.leaves env
  leaves_fit = record { each = settled.fits }

  read_fits : (r : Read) (w : ℕ) → CanRead net.leaves net.nodes r → at_width (value_at net env r) w < 2 ^ w
  read_fits r w can = fit_below (value_at net env r) w (types net env r whole leaves_fit can).bits

  -- what a register takes is below two to its width, where what it shows is
  module _ (w now : ℕ) (shows : now < 2 ^ w) (signed : Bool) where
    taken_fits : (o : Option Read) → CanBeDriven net.leaves net.nodes signed o → taken net env w now o < 2 ^ w
    taken_fits None can = shows
    taken_fits (Some r) can = read_fits r w can.can

    under_fits : (kind : ResetKind) (c i : Read) (n : ℕ) → CanRead net.leaves net.nodes i → n < 2 ^ w → taken_under net env w now kind c i n < 2 ^ w
    under_fits Synchronous c i n can fits = either (is_high net env c) (at_width (value_at net env i) w) n (2 ^ w) (read_fits i w can) fits
    under_fits Asynchronous c i n can fits = either (is_high net env c) now n (2 ^ w) shows fits

    reset_fits : (o : Option Reset) (n : ℕ) → CanBeReset net.leaves net.nodes signed o → n < 2 ^ w → taken_with net env w now o n < 2 ^ w
    reset_fits None n can fits = fits
    reset_fits (Some r) n can fits = under_fits r.kind r.condition r.init n can.init.can fits

    role_fits : (r : Role) → IsRole net.leaves net.nodes signed w r → ((p : Pipe) → r ≡ role.Pipe p → piped net env clock tick.clocks state p < 2 ^ w)
        → next_by net env clock tick.clocks state w now r < 2 ^ w
    role_fits (role.Register r) is reads =
        let n = taken net env w now r.next in
        either (ticks tick.clocks (clock r.clock)) (taken_with net env w now r.reset n) now (2 ^ w) (reset_fits r.reset n is.1 (taken_fits r.next is.2)) shows
    role_fits (role.Pipe p) is reads = either (ticks tick.clocks (clock p.clock)) (piped net env clock tick.clocks state p) now (2 ^ w) (reads p refl) shows
    role_fits role.Input is reads = shows
    role_fits role.Clock is reads = shows
    role_fits (role.Output r) is reads = shows
    role_fits (role.Wire r) is reads = shows
    role_fits (role.Reading r) is reads = shows
    role_fits (role.ClockOutput c) is reads = shows
    role_fits (role.ClockWire c) is reads = shows

  -- what is written into an array has the width of its words
  given_fits : (k i : ℕ) (a : Array) (w : ArrayWrite) → slice_get net.arrays k ≡ Some a → slice_get a.writes i ≡ Some w
      → at_width (value_at net env w.given) a.width < 2 ^ a.width
  given_fits k i a w at of =
      let array : IsArray net.leaves net.nodes a = all_there (IsArray net.leaves net.nodes) net.arrays whole.arrays k a at in
      let write : IsArrayWrite net.leaves net.nodes a.signed a.width w = all_there (IsArrayWrite net.leaves net.nodes a.signed a.width) a.writes array.writes i w of in
      read_fits w.given a.width write.given

  -- and so has what writes leave of a word
  left_fits : (width : ℕ) (ws : List ArrayWrite) (address word : ℕ) → ((i : ℕ) (w : ArrayWrite) → slice_get ws i ≡ Some w → at_width (value_at net env w.given) width < 2 ^ width) → word < 2 ^ width
      → word_after net env clock tick.clocks width ws address word < 2 ^ width
  left_fits width [] address word given fits = fits
  left_fits width (w ∷ ws) address word given fits =
      left_fits width ws address (if is_written net env clock tick.clocks w address then at_width (value_at net env w.given) width else word) (λ i v at. given (suc i) v at)
      (either (is_written net env clock tick.clocks w address) (at_width (value_at net env w.given) width) word (2 ^ width) (given 0 w refl) fits)

  -- what a pipe takes has the width of the array's words
  module _ (l : Leaf) (r : ArrayRead) (of : IsReadOf net.arrays l r) where
    abbrev number : ℕ
    number = (value_at net env r.address).value.number

    left_below : number < words_of net.arrays r.array → word_left net env clock tick.clocks state r.array number (slice_get net.arrays r.array) < 2 ^ l.width
    left_below within =
        let a : Array = of.0 in
        let own : word_width net.arrays r.array ≡ a.width = ap (λ (o : Option Array). unwrap_or (option_map (λ (b : Array). b.width) o) 0) of.1 in
        let old : word_in state (begin_of net r.array) number < 2 ^ a.width =
        subst (λ (w : ℕ). word_in state (begin_of net r.array) number < 2 ^ w) own (word_fits net state settled.shaped.state_fits r.array number within) in
        subst (λ (w : ℕ). word_left net env clock tick.clocks state r.array number (slice_get net.arrays r.array) < 2 ^ w) of.2
        (subst (λ (o : Option Array). word_left net env clock tick.clocks state r.array number o < 2 ^ a.width) (sym of.1)
        (left_fits a.width a.writes number (word_in state (begin_of net r.array) number) (λ i w at. given_fits r.array i a w of.1 at) old))

    new_fits : read_left net env clock tick.clocks state r < 2 ^ l.width
    new_fits = go (is_read net env r) refl
      where
        go : (b : Bool) → is_read net env r ≡ b → (if b then word_left net env clock tick.clocks state r.array number (slice_get net.arrays r.array) else 0) < 2 ^ l.width
        go false e = pow_pos l.width
        go true e = let within : number < words_of net.arrays r.array = grind arith in left_below within

  pipe_fits : (l : Leaf) (p : Pipe) → IsReadOf net.arrays l p.read → piped net env clock tick.clocks state p < 2 ^ l.width
  pipe_fits l p of =
      either p.is_new (read_left net env clock tick.clocks state p.read) (word_read net state env p.read) (2 ^ l.width) (new_fits l p.read of)
      (array_read_fits net state settled.shaped.state_fits env p.read l of)

  next_word_fits : (k : ℕ) → In (registers net) k → next_word net env clock tick.clocks state k < 2 ^ leaf_width net.leaves k
  next_word_fits k m =
      let place = number_of (registers net) k m in
      let there = state_at whole.state place.0 k place.1 in
      let l : Leaf = there.leaf in
      let is : IsLeaf net.leaves net.nodes l = all_there (IsLeaf net.leaves net.nodes) net.leaves whole.leaves k l there.at in
      let shows : env k < 2 ^ l.width = settled.fits k l there.at (state_plain l.role there.is) in
      subst (λ (o : Option Leaf). next_of net env clock tick.clocks state (env k) o < 2 ^ unwrap_or (option_map (λ (x : Leaf). x.width) o) 0) (sym there.at)
      (role_fits l.width (env k) shows l.signed l.role is.driven (λ p e. pipe_fits l p (whole.pipes k l p there.at e)))

  pub next_fits : FitEach (shape net).state (next net state env clock tick)
  next_fits =
      fit_joined (map (leaf_width net.leaves) (registers net)) (array_widths net) (words_next net env clock tick.clocks state) (arrays_next net env clock tick.clocks state)
      (fit_map (leaf_width net.leaves) (next_word net env clock tick.clocks state) (registers net) next_word_fits)
      (arrays_fit net state settled.shaped.state_fits env clock tick.clocks given_fits)
