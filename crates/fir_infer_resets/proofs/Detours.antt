-- A walk without one that stands between the same leaf of two elements is a walk.
use Rattle.std.proofs.Common.{◌≡◌, ℕ, List, [], ◌∷◌, ◌++◌, Some, refl, ap, subst, inl, inr}
use Rattle.std.specs.Prelude.{slice_get}
use Rattle.std.specs.List.{AllByRecursion}
use Rattle.fir_base.specs.Lists.{In, Distinct}
use Rattle.fir_ast.specs.Circuits.{CircuitTree}
use Rattle.fir_meaning.specs.ResetItems.{End}
use Rattle.fir_meaning.specs.ResetWalks.{IsReset, IsAsyncReset, IsUInt, IsChain, IsResetWalk, Joined}
use Rattle.fir_infer_resets.specs.working.FoundKinds.{HasEnds}
use Rattle.fir_infer_resets.specs.working.DirectWalks.{IsWalkOfEnds}
use Rattle.fir_infer_resets.proofs.EndKinds.{no_async_reset, no_uint_reset}

-- from an end through Resets to an AsyncReset, each joined to the one before it
abbrev Goes : CircuitTree → End → List End → Type 0
Goes c e [] = IsAsyncReset e
Goes c e (f ∷ fs) = IsReset e × Joined c e f × Goes c f fs

-- from a UInt
abbrev Begins : CircuitTree → List End → Type 0
Begins c [] = ⊥
Begins c (e ∷ []) = ⊥
Begins c (e ∷ f ∷ fs) = IsUInt e × Joined c e f × IsReset f × Goes c f fs

goes_from : (c : CircuitTree) (e : End) (es : List End) (last : End) → AllByRecursion IsReset (e ∷ es) → IsChain c e (es ++ last ∷ []) → IsAsyncReset last → Goes c e (es ++ last ∷ [])
goes_from c e [] last r j a = (r.0, j.0, a)
goes_from c e (f ∷ fs) last r j a = (r.0, j.0, goes_from c f fs last r.1 j.1 a)

begins_from : (c : CircuitTree) (begins first : End) (others : List End) (last : End) → IsResetWalk c begins first others last → Begins c (begins ∷ first ∷ others ++ last ∷ [])
begins_from c begins first others last w = (w.uint_end, w.chain.0, w.resets.0, goes_from c first others last w.resets w.chain.1 w.async_end)

-- back from there to the parts of a walk
record Ended (c : CircuitTree) (e : End) (es : List End) : Type 0 where
  others : List End
  last : End
  is : es ≡ others ++ last ∷ []
  resets : AllByRecursion IsReset (e ∷ others)
  chain : IsChain c e (others ++ last ∷ [])
  async_end : IsAsyncReset last

ended : (c : CircuitTree) (e : End) (es : List End) → IsReset e → Goes c e es → Ended c e es
ended c e [] r g = absurd (no_async_reset e r g)
ended c e (f ∷ []) r g = record { others = []; last = f; is = refl; resets = (r, tt); chain = (g.1, tt); async_end = g.2 }
ended c e (f ∷ h ∷ hs) r g =
    let more = ended c f (h ∷ hs) g.2.0 g.2 in
    record {
      others = f ∷ more.others;
      last = more.last;
      is = ap (λ es. f ∷ es) more.is;
      resets = (r, more.resets);
      chain = (g.1, more.chain);
      async_end = more.async_end;
    }

pub walk_of_ends : (c : CircuitTree) (ends : List End) (walk : List ℕ) (es : List End) → HasEnds ends walk es → Begins c es → Distinct es → IsWalkOfEnds c ends walk
walk_of_ends c ends walk [] has b d = absurd b
walk_of_ends c ends walk (e ∷ []) has b d = absurd b
walk_of_ends c ends walk (e ∷ f ∷ fs) has b d =
    let p = ended c f fs b.2 b.3 in
    let is : e ∷ f ∷ fs ≡ e ∷ f ∷ p.others ++ p.last ∷ [] = ap (λ es. e ∷ f ∷ es) p.is in
    record {
      begins = e;
      first = f;
      others = p.others;
      last = p.last;
      has = subst (HasEnds ends walk) is has;
      is = record { uint_end = b.0; resets = p.resets; async_end = p.async_end; chain = (b.1, p.chain); once = subst (λ es. Distinct es) is d };
    }

-- one is left out
module _ (c : CircuitTree) (x y z : End) (rest : List End) (joined : Joined c x z) where
  goes_past : (e : End) (front : List End) → Goes c e (front ++ x ∷ y ∷ z ∷ rest) → Goes c e (front ++ x ∷ z ∷ rest)
  goes_past e [] g = (g.0, g.1, (g.2.0, joined, g.2.2.2))
  goes_past e (f ∷ front) g = (g.0, g.1, goes_past f front g.2)

  begins_past : (front : List End) → IsReset x → Begins c (front ++ x ∷ y ∷ z ∷ rest) → Begins c (front ++ x ∷ z ∷ rest)
  begins_past [] r b = absurd (no_uint_reset x r b.0)
  begins_past (e ∷ []) r b = (b.0, b.1, b.2, (b.3.0, joined, b.3.2.2))
  begins_past (e ∷ f ∷ front) r b = (b.0, b.1, b.2, goes_past f front b.3)

pub in_past : {A : Type 0} → (front : List A) (x y : A) (rest : List A) (a : A) → In (front ++ x ∷ rest) a → In (front ++ x ∷ y ∷ rest) a
in_past [] x y rest a (inl e) = inl e
in_past [] x y rest a (inr m) = inr (inr m)
in_past (b ∷ front) x y rest a (inl e) = inl e
in_past (b ∷ front) x y rest a (inr m) = inr (in_past front x y rest a m)

distinct_past : {A : Type 0} → (front : List A) (x y : A) (rest : List A) → Distinct (front ++ x ∷ y ∷ rest) → Distinct (front ++ x ∷ rest)
distinct_past [] x y rest d = ((λ m. d.0 (inr m)), d.1.1)
distinct_past (b ∷ front) x y rest d = ((λ m. d.0 (in_past front x y rest b m)), distinct_past front x y rest d.1)

-- the ends of numbers in two parts
record Cut (ends : List End) (front rest : List ℕ) (es : List End) : Type 0 where
  left : List End
  right : List End
  is : es ≡ left ++ right
  has_left : HasEnds ends front left
  has_right : HasEnds ends rest right

cut : (ends : List End) (front rest : List ℕ) (es : List End) → HasEnds ends (front ++ rest) es → Cut ends front rest es
cut ends [] rest es h = record { left = []; right = es; is = refl; has_left = tt; has_right = h }
cut ends (x ∷ front) rest [] h = absurd h
cut ends (x ∷ front) rest (e ∷ es) h =
    let r = cut ends front rest es h.1 in
    record { left = e ∷ r.left; right = r.right; is = ap (λ es. e ∷ es) r.is; has_left = (h.0, r.has_left); has_right = r.has_right }

join : (ends : List End) (front rest : List ℕ) (left right : List End) → HasEnds ends front left → HasEnds ends rest right → HasEnds ends (front ++ rest) (left ++ right)
join ends [] rest [] right h k = k
join ends [] rest (e ∷ left) right h k = absurd h
join ends (x ∷ front) rest [] right h k = absurd h
join ends (x ∷ front) rest (e ∷ left) right h k = (h.0, join ends front rest left right h.1 k)

module _ (c : CircuitTree) (ends : List End) (front : List ℕ) (x y z : ℕ) (rest : List ℕ)
    (joined : (e f : End) → slice_get ends x ≡ Some e → slice_get ends z ≡ Some f → IsReset e × Joined c e f) where
  shorter : (left right : List End) → HasEnds ends front left → HasEnds ends (x ∷ y ∷ z ∷ rest) right → Begins c (left ++ right) → Distinct (left ++ right)
      → IsWalkOfEnds c ends (front ++ x ∷ z ∷ rest)
  shorter left [] h k b d = absurd k
  shorter left (e ∷ []) h k b d = absurd k.1
  shorter left (e ∷ f ∷ []) h k b d = absurd k.1.1
  shorter left (e ∷ f ∷ g ∷ right) h k b d =
      let j = joined e g k.0 k.1.1.0 in
      walk_of_ends c ends (front ++ x ∷ z ∷ rest) (left ++ e ∷ g ∷ right) (join ends front (x ∷ z ∷ rest) left (e ∷ g ∷ right) h (k.0, (k.1.1.0, k.1.1.1)))
      (begins_past c e f g right j.1 left j.0 b) (distinct_past left e f (g ∷ right) d)

  pub past : IsWalkOfEnds c ends (front ++ x ∷ y ∷ z ∷ rest) → IsWalkOfEnds c ends (front ++ x ∷ z ∷ rest)
  past w =
      let es = w.begins ∷ w.first ∷ w.others ++ w.last ∷ [] in
      let p = cut ends front (x ∷ y ∷ z ∷ rest) es w.has in
      shorter p.left p.right p.has_left p.has_right (subst (Begins c) p.is (begins_from c w.begins w.first w.others w.last w.is)) (subst (λ l. Distinct l) p.is w.is.once)
