-- What each leaf is worth, by the state and the tick: its equation. It fits the leaf, and hangs on what stands before the leaf in an order.
use Rattle.std.proofs.Common.{◌≡◌, ℕ, ◌^◌, ◌<◌, List, length, take, Bool, true, false, if◌then◌else◌, slice_index, refl, sym, ap, ◌∙◌, subst, arith}
use Rattle.std.specs.Prelude.{slice_get, Option, Some, None}
use Rattle.std.proofs.lemmas.Nat.{pow_pos}
use Rattle.fir_base.specs.Ticks.{Tick, HasShape}
use Rattle.fir_base.proofs.Elements.{all_there}
use Rattle.fir_bits.specs.working.Laws.{HasItsType}
use Rattle.fir_bits.specs.declared.values.Num.{Num}
use Rattle.fir_net.specs.declared.reads.Read.{Read}
use Rattle.fir_net.specs.declared.reads.Read.TheVariants as read
use Rattle.fir_net.specs.declared.leaf.ResetKind.{ResetKind}
use Rattle.fir_net.specs.declared.leaf.ResetKind.TheVariants.{Synchronous, Asynchronous}
use Rattle.fir_net.specs.declared.leaf.Reset.{Reset}
use Rattle.fir_net.specs.declared.leaf.Role.{Role}
use Rattle.fir_net.specs.declared.leaf.Role.TheVariants as role
use Rattle.fir_net.specs.declared.leaf.Leaf.{Leaf}
use Rattle.fir_net.specs.declared.net.FlatNet.{FlatNet}
use Rattle.fir_net.specs.working.Dependence.{kind_reads, reset_reads, role_reads, leaf_reads, Reads}
use Rattle.fir_net.specs.working.Arrays.{array_widths}
use Rattle.fir_net.specs.working.IsNet.{CanRead, CanBeReset, IsRole, IsLeaf, IsNet}
use Rattle.fir_net.specs.working.IsOrder.{IsOrder}
use Rattle.fir_net.specs.working.Values.{at_width, leaf_width}
use Rattle.fir_net.specs.working.Settled.{value_at, is_high, shown_by, shown, word_read, shape, inputs, registers}
use Rattle.fir_net.proofs.ArrayWords.{front_fits, read_fits}
use Rattle.fir_net.proofs.Places.{place_of, place_fits}
use Rattle.fir_net.specs.working.Laws.{LeavesFit}
use Rattle.fir_net.proofs.WholeValues.{width_at, fit_below, value_whole}
use Rattle.fir_net.proofs.AlongOrder.{SameBefore, HangsBefore}
use Rattle.fir_net.proofs.ValuesAlong.{IsPlain, values_agree}

-- the word of a register or a pipe, among those that stand in front of the arrays
abbrev pub front_word : FlatNet → List ℕ → ℕ → ℕ
front_word net state k = slice_index (take (length (registers net)) state) (place_of k (registers net))

-- the value by the role; a clock has none
abbrev pub role_value : FlatNet → List ℕ → Tick → (ℕ → ℕ) → ℕ → ℕ → Role → ℕ
role_value net state tick env k width role.Input = slice_index tick.inputs (place_of k (inputs net))
role_value net state tick env k width (role.Output r) = at_width (value_at net env r) width
role_value net state tick env k width (role.Wire r) = at_width (value_at net env r) width
role_value net state tick env k width (role.Reading r) = word_read net state env r
role_value net state tick env k width (role.Register d) = shown net env width d.reset (front_word net state k)
role_value net state tick env k width (role.Pipe p) = front_word net state k
role_value net state tick env k width _ = 0

abbrev pub leaf_value : FlatNet → List ℕ → Tick → (ℕ → ℕ) → ℕ → Option Leaf → ℕ
leaf_value net state tick env k None = 0
leaf_value net state tick env k (Some l) = role_value net state tick env k l.width l.role

abbrev pub value_equation : FlatNet → List ℕ → Tick → (ℕ → ℕ) → ℕ → ℕ
value_equation net state tick env k = leaf_value net state tick env k (slice_get net.leaves k)

pub equation_at : (net : FlatNet) (state : List ℕ) (tick : Tick) (env : ℕ → ℕ) (k : ℕ) (l : Leaf) (r : Role) → slice_get net.leaves k ≡ Some l → l.role ≡ r → value_equation net state tick env k ≡ role_value net state tick env k l.width r
equation_at net state tick env k l r at is = ap (leaf_value net state tick env k) at ∙ ap (role_value net state tick env k l.width) is

-- what a leaf's role asks for
pub driven_at : (net : FlatNet) → IsNet net → (k : ℕ) (l : Leaf) (r : Role) → slice_get net.leaves k ≡ Some l → l.role ≡ r → IsRole net.leaves net.nodes l.signed l.width r
driven_at net whole k l r at is = subst (IsRole net.leaves net.nodes l.signed l.width) is (all_there (IsLeaf net.leaves net.nodes) net.leaves whole.leaves k l at).driven

one_of : (b : Bool) (x y w : ℕ) → x < 2 ^ w → y < 2 ^ w → (if b then x else y) < 2 ^ w
one_of true x y w h g = h
one_of false x y w h g = g

-- each value fits its leaf
module _ (law : HasItsType) (net : FlatNet) (whole : IsNet net) (env : ℕ → ℕ) (fit : LeavesFit net.leaves env) where
  fitted_below : (w : ℕ) (r : Read) → CanRead net.leaves net.nodes r → at_width (value_at net env r) w < 2 ^ w
  fitted_below w r can = fit_below (value_at net env r) w (value_whole law net whole env fit r can)

  shown_by_below : (w : ℕ) (kind : ResetKind) (condition init : Read) (word : ℕ) → CanRead net.leaves net.nodes init → word < 2 ^ w → shown_by net env w kind condition init word < 2 ^ w
  shown_by_below w Synchronous condition init word can h = h
  shown_by_below w Asynchronous condition init word can h = one_of (is_high net env condition) (at_width (value_at net env init) w) word w (fitted_below w init can) h

  shown_below : (w : ℕ) (signed : Bool) (o : Option Reset) (word : ℕ) → CanBeReset net.leaves net.nodes signed o → word < 2 ^ w → shown net env w o word < 2 ^ w
  shown_below w signed None word can h = h
  shown_below w signed (Some d) word can h = shown_by_below w d.kind d.condition d.init word can.init.can h

  module _ (state : List ℕ) (tick : Tick) (shaped : HasShape (shape net) state tick) where
    word_below : (k : ℕ) (l : Leaf) → slice_get net.leaves k ≡ Some l → front_word net state k < 2 ^ l.width
    word_below k l at =
        subst (λ (w : ℕ). front_word net state k < 2 ^ w) (width_at net.leaves k l at)
        (place_fits (leaf_width net.leaves) (registers net) (take (length (registers net)) state) (front_fits (leaf_width net.leaves) (registers net) (array_widths net) state shaped.state_fits) k)

    role_below : (k : ℕ) (l : Leaf) (r : Role) → slice_get net.leaves k ≡ Some l → l.role ≡ r → IsRole net.leaves net.nodes l.signed l.width r → role_value net state tick env k l.width r < 2 ^ l.width
    role_below k l role.Input at eq is = subst (λ (w : ℕ). slice_index tick.inputs (place_of k (inputs net)) < 2 ^ w) (width_at net.leaves k l at) (place_fits (leaf_width net.leaves) (inputs net) tick.inputs shaped.inputs_fit k)
    role_below k l role.Clock at eq is = pow_pos l.width
    role_below k l (role.Output r) at eq is = fitted_below l.width r is.can
    role_below k l (role.Wire r) at eq is = fitted_below l.width r is.can
    role_below k l (role.Register d) at eq is = shown_below l.width l.signed d.reset (front_word net state k) is.1 (word_below k l at)
    role_below k l (role.Reading r) at eq is = read_fits net state shaped.state_fits env r l (whole.readings k l r at eq)
    role_below k l (role.Pipe p) at eq is = word_below k l at
    role_below k l (role.ClockOutput c) at eq is = pow_pos l.width
    role_below k l (role.ClockWire c) at eq is = pow_pos l.width

    pub value_below : (k : ℕ) (l : Leaf) → slice_get net.leaves k ≡ Some l → value_equation net state tick env k < 2 ^ l.width
    value_below k l at = rw at (role_below k l l.role at refl (driven_at net whole k l l.role at refl))

same_choice : (b c : Bool) (x y w z : ℕ) → b ≡ c → x ≡ y → w ≡ z → (if b then x else w) ≡ (if c then y else z)
same_choice b c x y w z e f g = cc

-- each value hangs on what stands before its leaf
module _ (net : FlatNet) (whole : IsNet net) (order : List Read) (is_order : IsOrder net order) (state : List ℕ) (tick : Tick) where
  module _ (e f : ℕ → ℕ) (i k : ℕ) (l : Leaf) (here : slice_get order i ≡ Some (read.Leaf k)) (at : slice_get net.leaves k ≡ Some l) (same : SameBefore order (IsPlain net) i e f) where
    read_same : (place : ℕ) (r : Read) → slice_get (role_reads l.role) place ≡ Some r → CanRead net.leaves net.nodes r → value_at net e r ≡ value_at net f r
    read_same place r reads can =
        let hangs : Reads net (read.Leaf k) r = record { place = place; is = ap (λ (o : Option Leaf). slice_get (leaf_reads o) place) at ∙ reads } in
        let before = is_order.after i (read.Leaf k) r here hangs in
        values_agree net whole order is_order e f i same i before.0 r before.1 (omega arith) before.2 can

    fitted_same : (place : ℕ) (r : Read) → slice_get (role_reads l.role) place ≡ Some r → CanRead net.leaves net.nodes r → at_width (value_at net e r) l.width ≡ at_width (value_at net f r) l.width
    fitted_same place r reads can = ap (λ (v : Num). at_width v l.width) (read_same place r reads can)

    shown_by_same : (kind : ResetKind) (condition init : Read) (word : ℕ) → role_reads l.role ≡ kind_reads kind condition init → CanRead net.leaves net.nodes condition → CanRead net.leaves net.nodes init
        → shown_by net e l.width kind condition init word ≡ shown_by net f l.width kind condition init word
    shown_by_same Synchronous condition init word reads c d = refl
    shown_by_same Asynchronous condition init word reads c d =
        let high = read_same 0 condition (ap (λ (rs : List Read). slice_get rs 0) reads) c in
        let value = fitted_same 1 init (ap (λ (rs : List Read). slice_get rs 1) reads) d in
        rw (high, value) refl

    shown_same : (o : Option Reset) (word : ℕ) → role_reads l.role ≡ reset_reads o → CanBeReset net.leaves net.nodes l.signed o → shown net e l.width o word ≡ shown net f l.width o word
    shown_same None word reads can = refl
    shown_same (Some d) word reads can = shown_by_same d.kind d.condition d.init word reads can.condition can.init.can

    role_same : (r : Role) → l.role ≡ r → IsRole net.leaves net.nodes l.signed l.width r → role_value net state tick e k l.width r ≡ role_value net state tick f k l.width r
    role_same role.Input is can = refl
    role_same role.Clock is can = refl
    role_same (role.Output r) is can = fitted_same 0 r (ap (λ (x : Role). slice_get (role_reads x) 0) is) can.can
    role_same (role.Wire r) is can = fitted_same 0 r (ap (λ (x : Role). slice_get (role_reads x) 0) is) can.can
    role_same (role.Register d) is can = shown_same d.reset (front_word net state k) (ap role_reads is) can.1
    role_same (role.Reading r) is can =
        let address = read_same 0 r.address (ap (λ (x : Role). slice_get (role_reads x) 0) is) can.address in
        let enable = read_same 1 r.enable (ap (λ (x : Role). slice_get (role_reads x) 1) is) can.enable in
        rw (address, enable) refl
    role_same (role.Pipe p) is can = refl
    role_same (role.ClockOutput c) is can = refl
    role_same (role.ClockWire c) is can = refl

  pub values_hang : HangsBefore order (IsPlain net) (value_equation net state tick)
  values_hang = record {
    each = λ i k e f here plain same.
        let l = plain.leaf in
        equation_at net state tick e k l l.role plain.at refl
        ∙ role_same e f i k l here plain.at same l.role refl (driven_at net whole k l l.role plain.at refl)
        ∙ sym (equation_at net state tick f k l l.role plain.at refl);
  }
