-- A walk back takes the number of the entry that it is at.
use Rattle.std.proofs.Common.{◌≡◌, ℕ, zero, suc, ◌+◌, ◌-◌, ◌<◌, List, [], ◌∷◌, ◌++◌, Some, length, sym, ap, ◌∙◌, subst, inl, inr, arith, length-append, Vec, Global}
use Rattle.std.specs.Prelude.{slice_get}
use Rattle.std.proofs.lemmas.Option.{same_Some, slice_get_within}
use Rattle.fir_infer_resets.specs.declared.graph.Kind.{Kind}
use Rattle.fir_infer_resets.specs.declared.graph.Kind.TheVariants.{Unsigned, Asynchronous, Reset}
use Rattle.fir_infer_resets.specs.declared.roots.Entry.{Entry}
use Rattle.fir_infer_resets.specs.working.ResetGraphs.{IsJoined, IsUnsigned, IsAsynchronous, IsReset, IsResetWalk}
use Rattle.fir_infer_resets.specs.working.Reaching.{ComesFrom}
use Rattle.fir_infer_resets.specs.working.Walking.{IsJoinedAt, IsQueuedBehind, WalksTo}
use Rattle.fir_base.proofs.Writes.{PushedOr, push_cases}

abbrev pub OnceEach : List Entry → Type 0
OnceEach queue = (i j : ℕ) (e f : Entry) → slice_get queue i ≡ Some e → slice_get queue j ≡ Some f → e.node ≡ f.node → i ≡ j

pub walk_begun : (graph : List (Vec ℕ Global)) (kinds : List Kind) (queue : List Entry) (unsigned place : ℕ) → IsUnsigned kinds unsigned → IsJoinedAt graph queue place unsigned → WalksTo graph kinds queue (unsigned ∷ []) place
walk_begun graph kinds queue unsigned place kind j =
    record {
      long = omega arith;
      first = λ v h. subst (λ (z : ℕ). IsUnsigned kinds z) (same_Some unsigned v h) kind;
      inner = λ i v lt h. absurd (omega (arith, lt, slice_get_within (unsigned ∷ []) i v h));
      behind = λ i v lt h. absurd (omega (arith, lt, slice_get_within (unsigned ∷ []) i v h));
      joined = λ i x y h l. absurd (omega (arith, slice_get_within (unsigned ∷ []) (i + 1) y l));
      once = λ i m x h l. omega (arith, slice_get_within (unsigned ∷ []) i x h, slice_get_within (unsigned ∷ []) m x l);
      entry = j.entry;
      at = j.at;
      last = λ v h. subst (λ (z : ℕ). IsJoined graph j.entry.node z) (same_Some unsigned v h) j.joined;
    }

module _ (graph : List (Vec ℕ Global)) (kinds : List Kind) (queue : List Entry) (walk : List ℕ) (place : ℕ) (w : WalksTo graph kinds queue walk place) (queue_once : OnceEach queue) where
  node : ℕ
  node = w.entry.node

  -- what the walk takes next is not in it yet, unless it is a UInt
  new : (IsUnsigned kinds w.entry.node → ⊥) → (i : ℕ) → slice_get walk i ≡ Some w.entry.node → ⊥
  new other zero h = other (w.first w.entry.node h)
  new other (suc i) h =
      let b = w.behind (suc i) w.entry.node (omega arith) h in
      let same : b.behind ≡ place = queue_once b.behind place b.entry w.entry b.at w.at b.is in
      absurd (omega (arith, same, b.less))

  joined : (i x y : ℕ) → PushedOr walk w.entry.node i x → PushedOr walk w.entry.node (i + 1) y → IsJoined graph y x
  joined i x y (inl h) (inl k) = w.joined i x y h k
  joined i x y (inr (e, f)) (inl k) = absurd (omega (arith, e, slice_get_within walk (i + 1) y k))
  joined i x y (inr (e, f)) (inr (g, h)) = absurd (omega (arith, e, g))
  joined i x y (inl h) (inr (e, f)) =
      let last : length walk - 1 ≡ i = omega (arith, e) in
      subst (λ (z : ℕ). IsJoined graph z x) f (w.last x (ap (slice_get walk) last ∙ h))

  once : ((i : ℕ) → slice_get walk i ≡ Some w.entry.node → ⊥) → (i j x : ℕ) → PushedOr walk w.entry.node i x → PushedOr walk w.entry.node j x → i ≡ j
  once fresh i j x (inl h) (inl k) = w.once i j x h k
  once fresh i j x (inl h) (inr (e, f)) = absurd (fresh i (h ∙ ap Some (sym f)))
  once fresh i j x (inr (e, f)) (inl k) = absurd (fresh j (k ∙ ap Some (sym f)))
  once fresh i j x (inr (e, f)) (inr (g, h)) = e ∙ sym g

  first : (v : ℕ) → PushedOr walk w.entry.node 0 v → IsUnsigned kinds v
  first v (inl h) = w.first v h
  first v (inr (e, f)) = absurd (omega (arith, e, w.long))

  longer : length (walk ++ w.entry.node ∷ []) ≡ length walk + 1
  longer = length-append walk (w.entry.node ∷ [])

  -- the last of the longer walk is what it took
  took_last : (v : ℕ) → slice_get (walk ++ w.entry.node ∷ []) (length (walk ++ w.entry.node ∷ []) - 1) ≡ Some v → w.entry.node ≡ v
  took_last v h = by (push_cases walk w.entry.node (length (walk ++ w.entry.node ∷ []) - 1) v h)
    where
      by : PushedOr walk w.entry.node (length (walk ++ w.entry.node ∷ []) - 1) v → w.entry.node ≡ v
      by (inr (e, f)) = f
      by (inl k) = absurd (omega (arith, longer, slice_get_within walk (length (walk ++ w.entry.node ∷ []) - 1) v k))

  -- it takes a Reset, and goes back to what that was reached from
  pub walk_goes_on : ComesFrom graph kinds queue place w.entry → WalksTo graph kinds queue (walk ++ w.entry.node ∷ []) w.entry.from
  walk_goes_on c =
      record {
        long = omega (arith, longer);
        first = λ v h. first v (push_cases walk w.entry.node 0 v h);
        inner = λ i v lt h. inner i v lt (push_cases walk w.entry.node i v h);
        behind = λ i v lt h. behind i v lt (push_cases walk w.entry.node i v h);
        joined = λ i x y h k. joined i x y (push_cases walk w.entry.node i x h) (push_cases walk w.entry.node (i + 1) y k);
        once = λ i j x h k. once (new other) i j x (push_cases walk w.entry.node i x h) (push_cases walk w.entry.node j x k);
        entry = c.parent;
        at = c.at;
        last = λ v h. subst (λ (z : ℕ). IsJoined graph c.parent.node z) (took_last v h) c.joined;
      }
    where
      other : IsUnsigned kinds w.entry.node → ⊥
      other h = let k : Reset ≡ Unsigned = same_Some Reset Unsigned (sym c.kind ∙ h) in cc

      inner : (i v : ℕ) → 0 < i → PushedOr walk w.entry.node i v → IsReset kinds v
      inner i v lt (inl h) = w.inner i v lt h
      inner i v lt (inr (e, f)) = ap (slice_get kinds) (sym f) ∙ c.kind

      behind : (i v : ℕ) → 0 < i → PushedOr walk w.entry.node i v → IsQueuedBehind queue w.entry.from v
      behind i v lt (inl h) = let b = w.behind i v lt h in record { behind = b.behind; less = omega (arith, b.less, c.less); entry = b.entry; at = b.at; is = b.is }
      behind i v lt (inr (e, f)) = record { behind = place; less = c.less; entry = w.entry; at = w.at; is = f }

  -- it ends at an AsyncReset
  pub walk_ended : IsAsynchronous kinds w.entry.node → IsResetWalk graph kinds (walk ++ w.entry.node ∷ [])
  walk_ended root =
      record {
        long = omega (arith, w.long, longer);
        first = λ v h. first v (push_cases walk w.entry.node 0 v h);
        inner = λ i v lt below h. inner i v lt (omega (arith, below, longer)) (push_cases walk w.entry.node i v h);
        last = λ v h. ap (slice_get kinds) (sym (took_last v h)) ∙ root;
        joined = λ i x y h k. joined i x y (push_cases walk w.entry.node i x h) (push_cases walk w.entry.node (i + 1) y k);
        once = λ i j x h k. once (new other) i j x (push_cases walk w.entry.node i x h) (push_cases walk w.entry.node j x k);
      }
    where
      other : IsUnsigned kinds w.entry.node → ⊥
      other h = let k : Asynchronous ≡ Unsigned = same_Some Asynchronous Unsigned (sym root ∙ h) in cc

      inner : (i v : ℕ) → 0 < i → i < length walk → PushedOr walk w.entry.node i v → IsReset kinds v
      inner i v lt below (inl h) = w.inner i v lt h
      inner i v lt below (inr (e, f)) = absurd (omega (arith, e, below))
