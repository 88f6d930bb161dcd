-- A net that is another one written anew has words as names, and can be written, where that one has and can.
use Rattle.std.proofs.Common.{◌≡◌, ℕ, zero, suc, ◌<◌, List, [], ◌∷◌, length, refl, sym, ap, ◌∙◌, subst, IsTrue}
use Rattle.std.specs.Prelude.{slice_get, Option, Some, None}
use Rattle.std.specs.List.{AllByRecursion}
use Rattle.std.proofs.lemmas.Option.{slice_get_within}
use Rattle.fir_base.proofs.Elements.{all_there}
use Rattle.ver_words.specs.Names.{is_word}
use Rattle.fir_net.specs.Paths.{base_name}
use Rattle.fir_net.specs.declared.array.Array.{Array}
use Rattle.fir_net.specs.declared.array.ArrayWrite.{ArrayWrite}
use Rattle.fir_net.specs.declared.leaf.Leaf.{Leaf}
use Rattle.fir_net.specs.declared.leaf.Reset.{Reset}
use Rattle.fir_net.specs.declared.leaf.Role.{Role}
use Rattle.fir_net.specs.declared.leaf.Role.TheVariants as role
use Rattle.fir_net.specs.declared.net.FlatNet.{FlatNet}
use Rattle.fir_net.specs.working.IsWritable.{ActsAtOnce, EndsAt, IsPortClock, IsWritable, IsWritableRole, driven, input, of_pipe, of_write}
use Rattle.fir_net.specs.working.WordNames.{AreWordArrays, HasWordNames}
use Rattle.fir_equivalence.specs.working.Rewrites.{AreSameArrays, AreSameWrites, IsSameOptionalReset, IsSameRole, IsSameWrite, Rewrites}
use Rattle.fir_equivalence.proofs.Arrays.{AreBeside, array_beside, arrays, none}
use Rattle.fir_equivalence.proofs.Roles.{clock_beside, clock_driver_beside, pipe_beside}

-- what holds of each element holds of all
each_all : {A : Type 0} → (P : A → Type 0) (xs : List A) → ((k : ℕ) (x : A) → slice_get xs k ≡ Some x → P x) → AllByRecursion P xs
each_all P [] h = tt
each_all P (x ∷ xs) h = (h 0 x refl, each_all P xs (λ k y at. h (suc k) y at))

module _ (net other : FlatNet) (number : ℕ → ℕ) (R : Rewrites net other number) where
  array_words : (first second : List Array) → AreSameArrays net other number first second → AreWordArrays first → AreWordArrays second
  array_words [] [] s h = tt
  array_words [] (b ∷ second) s h = absurd s
  array_words (a ∷ first) [] s h = absurd s
  array_words (a ∷ first) (b ∷ second) s h =
      (subst (λ (path : List ℕ). IsTrue (is_word (base_name path))) (sym s.0.path) h.0, array_words first second s.1 h.1)

  pub names_there : HasWordNames net → HasWordNames other
  names_there h = record {
    word = subst (λ (name : List ℕ). IsTrue (is_word name)) (sym R.name) h.word;
    leaves = each_all (λ (l : Leaf). IsTrue (is_word (base_name l.path))) other.leaves each;
    arrays = array_words net.arrays other.arrays R.arrays h.arrays;
  }
    where
      each : (k : ℕ) (m : Leaf) → slice_get other.leaves k ≡ Some m → IsTrue (is_word (base_name m.path))
      each k m at =
          let x = R.leaves k m at in
          subst (λ (path : List ℕ). IsTrue (is_word (base_name path))) (sym x.2.path)
          (all_there (λ (l : Leaf). IsTrue (is_word (base_name l.path))) net.leaves h.leaves (number k) x.0 x.1)

  acts_there : (width : ℕ) (a b : Option Reset) → IsSameOptionalReset net other number width a b → ActsAtOnce a → ActsAtOnce b
  acts_there width None None s h = tt
  acts_there width None (Some b) s h = absurd s
  acts_there width (Some a) None s h = absurd s
  acts_there width (Some a) (Some b) s h = s.kind ∙ h

  role_there : (width : ℕ) (r s : Role) → IsSameRole net other number width r s → IsWritableRole r → IsWritableRole s
  role_there width (role.Register a) (role.Register b) s h = acts_there width a.reset b.reset s.reset h
  role_there width role.Input role.Input s h = tt
  role_there width role.Clock role.Clock s h = tt
  role_there width (role.Output r) (role.Output q) s h = tt
  role_there width (role.Wire r) (role.Wire q) s h = tt
  role_there width (role.Reading r) (role.Reading q) s h = tt
  role_there width (role.Pipe p) (role.Pipe q) s h = tt
  role_there width (role.ClockOutput c) (role.ClockOutput d) s h = tt
  role_there width (role.ClockWire c) (role.ClockWire d) s h = tt
  role_there width _ _ s h = absurd s

  -- where the drivers of a clock leaf end
  ends_there : (x i : ℕ) → EndsAt other x i → EndsAt net (number x) (number i) × (i < length other.leaves)
  ends_there _ _ (input k m at is) =
      let x = R.leaves k m at in
      (input (number k) x.0 x.1 (clock_beside net other number x.0.width x.0.role m.role x.2.role is), slice_get_within other.leaves k m at)
  ends_there _ _ (driven k j n m at is more) =
      let x = R.leaves k m at in
      let rest = ends_there j n more in
      (driven (number k) (number j) (number n) x.0 x.1 (clock_driver_beside net other number x.0.width x.0.role m.role (Some j) x.2.role is) rest.0, rest.1)

  write_beside : (width : ℕ) (first second : List ArrayWrite) → AreSameWrites net other number width first second → (n : ℕ) (w : ArrayWrite) → slice_get second n ≡ Some w
      → (v : ArrayWrite) × (slice_get first n ≡ Some v) × IsSameWrite net other number width v w
  write_beside width [] [] s n w at = cc
  write_beside width [] (b ∷ second) s n w at = absurd s
  write_beside width (a ∷ first) [] s n w at = absurd s
  write_beside width (a ∷ first) (b ∷ second) s zero w at = let same : b ≡ w = cc in (a, refl, subst (IsSameWrite net other number width a) same s.0)
  write_beside width (a ∷ first) (b ∷ second) s (suc n) w at = write_beside width first second s.1 n w at

  port_there : (k x : ℕ) → IsPortClock other k x → IsPortClock net k (number x)
  port_there k _ (of_write b n w at is) = by (slice_get net.arrays k) (slice_get other.arrays k) refl at (array_beside net other number R k)
    where
      by : (o p : Option Array) → slice_get net.arrays k ≡ o → p ≡ Some b → AreBeside net other number o p → IsPortClock net k (number w.clock)
      by _ _ here there none = cc
      by _ _ here there (arrays a y s) =
          let same : y ≡ b = cc in
          let found : slice_get y.writes n ≡ Some w = ap (λ (z : Array). slice_get z.writes n) same ∙ is in
          let v = write_beside a.width a.writes y.writes s.writes n w found in
          subst (IsPortClock net k) (sym v.2.clock) (of_write a n v.0 here v.1)
  port_there k _ (of_pipe x m q at is array) =
      let l = R.leaves x m at in
      let p = pipe_beside net other number l.0.width l.0.role m.role q l.2.role is in
      subst (IsPortClock net k) (sym p.2.clock) (of_pipe (number x) l.0 p.0 l.1 p.1 (sym p.2.read.array ∙ array))

  pub writable_there : IsWritable net → IsWritable other
  writable_there h = record {
    leaves = λ k m at. let x = R.leaves k m at in role_there x.0.width x.0.role m.role x.2.role (h.leaves (number k) x.0 x.1);
    inits = R.inits h.inits;
    clocks = record {
      same = λ k x y i j px py ex ey.
          let a = ends_there x i ex in
          let b = ends_there y j ey in
          R.once i j a.1 b.1 (h.clocks.same k (number x) (number y) (number i) (number j) (port_there k x px) (port_there k y py) a.0 b.0);
    };
  }
