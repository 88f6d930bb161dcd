-- The writes that have a clock, one after the other, and the number of words as a literal.
use Rattle.std.proofs.Common.{◌≡◌, ℕ, zero, suc, ◌+◌, ◌<◌, ◌≤◌, ◌^◌, List, [], ◌∷◌, ◌++◌, length, take, false, get_or, refl, subst, arith, lit≤}
use Rattle.std.specs.Prelude.{slice_get, Some, None, Option, IfNone, IfSome, is_some, true}
use Rattle.std.proofs.lemmas.Bool.{ltb-true, lt-ltb}
use Rattle.std.proofs.lemmas.List.{take_more}
use Rattle.fir_bits.specs.Literals.{least_width}
use Rattle.fir_bits.specs.Values.{BitVector}
use Rattle.fir_bits.specs.working.Laws.{LeastWidthIsLeast}
use Rattle.fir_net.specs.declared.array.Array.{Array}
use Rattle.fir_net.specs.declared.array.ArrayWrite.{ArrayWrite}
use Rattle.fir_net.specs.declared.net.FlatNet.{FlatNet}
use Rattle.fir_clock_root.specs.working.ClockRoots.{HasRoot}
use Rattle.fir_mem.specs.declared.clocked_writes.PortWrite.{PortWrite}
use Rattle.fir_mem.specs.declared.clocked_writes.PortWrites.{PortWrites}
use Rattle.fir_mem.specs.working.ClockedWrites.{AreClocked, AreClockedArrays, IsClockedArray, IsEnd, none, passed, kept, port_write}

module _ (net : FlatNet) where
  push_kept : (ws : List ArrayWrite) (ps : List PortWrite) (w : ArrayWrite) (n : ℕ) → HasRoot net w.clock n → AreClocked net ws ps → AreClocked net (ws ++ w ∷ []) (ps ++ port_write w ∷ [])
  push_kept _ _ w n root none = kept n w [] [] root none
  push_kept _ _ w n root (passed x xs ps not more) = passed x (xs ++ w ∷ []) (ps ++ port_write w ∷ []) not (push_kept xs ps w n root more)
  push_kept _ _ w n root (kept m x xs ps has more) = kept m x (xs ++ w ∷ []) (ps ++ port_write w ∷ []) has (push_kept xs ps w n root more)

  push_passed : (ws : List ArrayWrite) (ps : List PortWrite) (w : ArrayWrite) → ((n : ℕ) → HasRoot net w.clock n → ⊥) → AreClocked net ws ps → AreClocked net (ws ++ w ∷ []) ps
  push_passed _ _ w not none = passed w [] [] not none
  push_passed _ _ w bare (passed x xs ps not more) = passed x (xs ++ w ∷ []) ps not (push_passed xs ps w bare more)
  push_passed _ _ w bare (kept m x xs ps has more) = kept m x (xs ++ w ∷ []) ps has (push_passed xs ps w bare more)

  pub kept_more : (ws : List ArrayWrite) (ps : List PortWrite) (i : ℕ) (w : ArrayWrite) (n : ℕ) → i < length ws → w ≡ get_or ws i w → HasRoot net w.clock n → AreClocked net (take i ws) ps
      → AreClocked net (take (i + 1) ws) (ps ++ port_write w ∷ [])
  kept_more ws ps i w n low is root h = rw (take_more ws i w low, ← is) (push_kept (take i ws) ps w n root h)

  pub passed_more : (ws : List ArrayWrite) (ps : List PortWrite) (i : ℕ) (w : ArrayWrite) → i < length ws → w ≡ get_or ws i w → ((n : ℕ) → HasRoot net w.clock n → ⊥) → AreClocked net (take i ws) ps
      → AreClocked net (take (i + 1) ws) ps
  passed_more ws ps i w low is not h = rw (take_more ws i w low, ← is) (push_passed (take i ws) ps w not h)

  push_array : (arrays : List Array) (ps : List PortWrites) (a : Array) (p : PortWrites) → IsClockedArray net a p → AreClockedArrays net arrays ps → AreClockedArrays net (arrays ++ a ∷ []) (ps ++ p ∷ [])
  push_array [] [] a p is h = (is, tt)
  push_array [] (q ∷ ps) a p is h = absurd h
  push_array (x ∷ arrays) [] a p is h = absurd h
  push_array (x ∷ arrays) (q ∷ ps) a p is h = (h.0, push_array arrays ps a p is h.1)

  pub array_more : (arrays : List Array) (ps : List PortWrites) (i : ℕ) (a : Array) (p : PortWrites) → i < length arrays → a ≡ get_or arrays i a → IsClockedArray net a p
      → AreClockedArrays net (take i arrays) ps → AreClockedArrays net (take (i + 1) arrays) (ps ++ p ∷ [])
  array_more arrays ps i a p low is of h = rw (take_more arrays i a low, ← is) (push_array (take i arrays) ps a p of h)

  pub writes_there : (arrays : List Array) (ps : List PortWrites) → AreClockedArrays net arrays ps → (k : ℕ) (a : Array) → slice_get arrays k ≡ Some a → (p : PortWrites) × (slice_get ps k ≡ Some p) × IsClockedArray net a p
  writes_there [] ps h k a at = cc
  writes_there (x ∷ arrays) [] h k a at = absurd h
  writes_there (x ∷ arrays) (p ∷ ps) h zero a at = let same : x ≡ a = cc in (p, refl, subst (λ (y : Array). IsClockedArray net y p) same h.0)
  writes_there (x ∷ arrays) (p ∷ ps) h (suc k) a at = writes_there arrays ps h.1 k a at

-- a number of words fits its least width
pub end_fits : LeastWidthIsLeast → (words : ℕ) → words < 2 ^ 64 → (1 ≤ least_width false false words) × (least_width false false words ≤ 64) × (words < 2 ^ least_width false false words)
end_fits law words low =
    let is = law false false words in
    let narrow : least_width false false words ≤ 64 = is.least 64 (lit≤ tt) (lt-ltb words (2 ^ 64) low) in
    (is.low, narrow, ltb-true words (2 ^ least_width false false words) (is.holds (omega (arith, narrow))))

pub is_end : LeastWidthIsLeast → (words : ℕ) → words < 2 ^ 64 → (v : BitVector) → v ≡ record { width = least_width false false words; number = words } → IsEnd words (record { signed = false; value = v })
is_end law words low v is =
    let e = end_fits law words low in
    rw is (record { unsigned = refl; number = refl; has_bits = e.0; whole = record { narrow = omega (arith, e.1); below = e.2 } })

-- with a root, or without one
pub rooted_more : (net : FlatNet) (ws : List ArrayWrite) (ps : List PortWrite) (i : ℕ) (w : ArrayWrite) (o : Option ℕ) → i < length ws → w ≡ get_or ws i w → IfSome o (λ n. HasRoot net w.clock n) → is_some o ≡ true
    → AreClocked net (take i ws) ps → AreClocked net (take (i + 1) ws) (ps ++ port_write w ∷ [])
rooted_more net ws ps i w None low is root some h = cc
rooted_more net ws ps i w (Some n) low is root some h = kept_more net ws ps i w n low is root h

pub bare_more : (net : FlatNet) (ws : List ArrayWrite) (ps : List PortWrite) (i : ℕ) (w : ArrayWrite) (o : Option ℕ) → i < length ws → w ≡ get_or ws i w
    → IfNone o ((n : ℕ) → HasRoot net w.clock n → ⊥) → is_some o ≡ false → AreClocked net (take i ws) ps → AreClocked net (take (i + 1) ws) ps
bare_more net ws ps i w None low is bare some h = passed_more net ws ps i w low is bare h
bare_more net ws ps i w (Some n) low is bare some h = cc
