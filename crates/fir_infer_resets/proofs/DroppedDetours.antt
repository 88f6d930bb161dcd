-- The numbers of a walk, of which those that stand between two elements are dropped from the end of a list.
use Rattle.std.proofs.Common.{◌≡◌, ℕ, ◌+◌, ◌-◌, ◌<◌, ◌≤◌, List, [], ◌∷◌, ◌++◌, Some, length, take, drop, get_or, refl, sym, ap, ◌∙◌, subst, inl, inr, ◌⊎◌, arith, append_assoc, length-append, Vec, Global}
use Rattle.std.specs.Prelude.{slice_get, vec_len}
use Rattle.std.proofs.lemmas.Bool.{cases_lt}
use Rattle.std.proofs.lemmas.List.{take-append-le, drop_more, drop_all, append-nil}
use Rattle.std.proofs.lemmas.Option.{none-some, same_Some, slice_get_within, slice_get_read, get_or_from_slice_get}
use Rattle.std.proofs.Math.Seq.{take-append_seam}
use Rattle.fir_base.specs.Lists.{In}
use Rattle.fir_base.proofs.Elements.{get_left, get_behind, get_in, number_of}
use Rattle.fir_meaning.specs.ResetItems.{End, leaf_item}
use Rattle.fir_meaning.specs.ResetJoins.{AreElements}
use Rattle.fir_meaning.specs.ResetWalks.{IsReset}
use Rattle.fir_infer_resets.specs.declared.item.End.{End as EndOfCode}
use Rattle.fir_infer_resets.specs.working.BuiltGraphs.{HasKind}
use Rattle.fir_infer_resets.specs.working.Holding.{AreEnds, IsEnd}
use Rattle.fir_infer_resets.specs.working.ResetGraphs.{AllBelow}
use Rattle.fir_infer_resets.specs.working.DirectWalks.{AreElementEnds, EndsInDetour, IsDirect, Replaces, ReplacesHead}
use Rattle.fir_infer_resets.proofs.Detours.{in_past, past}
use Rattle.fir_infer_resets.proofs.StepTexts.{end_beside}

-- the last two of a list
record LastTwo (xs : List ℕ) : Type 0 where
  front : List ℕ
  before : ℕ
  last : ℕ
  is : xs ≡ front ++ before ∷ last ∷ []

last_two : (xs : List ℕ) → 2 ≤ length xs → LastTwo xs
last_two [] h = absurd (omega (arith, h))
last_two (a ∷ []) h = absurd (omega (arith, h))
last_two (a ∷ b ∷ []) h = record { front = []; before = a; last = b; is = refl }
last_two (a ∷ b ∷ d ∷ xs) h =
    let more = last_two (b ∷ d ∷ xs) (omega arith) in
    record { front = a ∷ more.front; before = more.before; last = more.last; is = ap (λ ys. a ∷ ys) more.is }

before_last : (xs front : List ℕ) (x y : ℕ) → xs ≡ front ++ x ∷ y ∷ [] → slice_get xs (length xs - 2) ≡ Some x
before_last xs front x y is =
    let place : length xs - 2 ≡ length front = omega (arith, ap length is, length-append front (x ∷ y ∷ [])) in
    ap (slice_get xs) place ∙ ap (λ ys. slice_get ys (length front)) is ∙ get_behind front (y ∷ []) x

one_end : (owns : List EndOfCode) (es : List End) → AreEnds owns es → (x : ℕ) (own : EndOfCode) (e : End) → slice_get owns x ≡ Some own → slice_get es x ≡ Some e → IsEnd own e
one_end owns es are x own e is there =
    let r = end_beside owns es are x e there in
    let same : r.0 ≡ own = same_Some r.0 own (sym r.1 ∙ is) in
    subst (λ o. IsEnd o e) same r.2

-- two ends of the code, as they are meant
elements_meant : (one other : EndOfCode) (e f : End) → AreElementEnds one other → IsEnd one e → IsEnd other f → IsReset e × IsReset f × AreElements e f
elements_meant one other e f are h k =
    let one_reset : IsReset e = subst (HasKind e) are.one_kind h.kind in
    let other_reset : IsReset f = subst (HasKind f) are.other_kind k.kind in (
      one_reset,
      other_reset,
      record {
        number = are.number;
        vector = are.paths.vector;
        one = are.paths.one;
        other = are.paths.other;
        rest = are.paths.rest;
        one_is = sym h.item ∙ are.one_is ∙ ap (leaf_item are.number) are.paths.one_is;
        other_is = sym k.item ∙ are.other_is ∙ ap (leaf_item are.number) are.paths.other_is;
        ground_type = one_reset ∙ sym other_reset;
        place = sym h.place ∙ are.place ∙ k.place;
      },
    )

pub two_or_more : (owns : List EndOfCode) (kept : List ℕ) (next : ℕ) → EndsInDetour owns kept next → 2 ≤ length kept
two_or_more owns kept next d = omega (arith, ap length d.is, length-append d.front (d.before ∷ d.last ∷ []))

-- as the code reads them
module _ (owns : List EndOfCode) (kept : List ℕ) (next x : ℕ) (own other : EndOfCode) (at : slice_get kept (length kept - 2) ≡ Some x) (own_read : own ≡ get_or owns x own)
    (other_read : other ≡ get_or owns next other) (within : x < length owns) (next_within : next < length owns) where
  is : slice_get owns x ≡ Some own
  is = slice_get_read owns (length owns) x own refl within own_read

  other_is : slice_get owns next ≡ Some other
  other_is = slice_get_read owns (length owns) next other refl next_within other_read

  pub ends_in_detour : 2 ≤ length kept → AreElementEnds own other → EndsInDetour owns kept next
  ends_in_detour long elements =
      let r = last_two kept long in
      let same : r.before ≡ x = same_Some r.before x (sym (before_last kept r.front r.before r.last r.is) ∙ at) in
      record {
        front = r.front;
        before = r.before;
        last = r.last;
        one = own;
        other = other;
        is = r.is;
        one_is = ap (slice_get owns) same ∙ is;
        other_is = other_is;
        elements = elements;
      }

  pub are_elements : EndsInDetour owns kept next → AreElementEnds own other
  are_elements d =
      let same : d.before ≡ x = same_Some d.before x (sym (before_last kept d.front d.before d.last d.is) ∙ at) in
      let one_same : d.one ≡ own = same_Some d.one own (sym d.one_is ∙ ap (slice_get owns) same ∙ is) in
      let other_same : d.other ≡ other = same_Some d.other other (sym d.other_is ∙ other_is) in
      subst (λ o. AreElementEnds o other) one_same (subst (AreElementEnds d.one) other_same d.elements)

below_some : (n : ℕ) (xs ys : List ℕ) → ((y : ℕ) → In ys y → In xs y) → AllBelow n xs → AllBelow n ys
below_some n xs ys some below = λ i y is. let at = number_of xs y (some y (get_in ys i y is)) in below at.0 y at.1

pub below_left : (n : ℕ) (xs ys : List ℕ) → AllBelow n (xs ++ ys) → AllBelow n xs
below_left n xs ys below = λ i y is. below i y (get_left xs ys i (slice_get_within xs i y is) ∙ is)

-- all but the last
front_of : (xs front : List ℕ) (x y : ℕ) → xs ≡ front ++ x ∷ y ∷ [] → take (length xs - 1) xs ≡ front ++ x ∷ []
front_of xs front x y is =
    let whole : xs ≡ (front ++ x ∷ []) ++ y ∷ [] = is ∙ sym (append_assoc front (x ∷ []) (y ∷ [])) in
    let long : length xs - 1 ≡ length (front ++ x ∷ []) = omega (arith, ap length whole, length-append (front ++ x ∷ []) (y ∷ [])) in
    ap (λ n. take n xs) long ∙ ap (take (length (front ++ x ∷ []))) whole ∙ take-append_seam (front ++ x ∷ []) (y ∷ [])

through : (owns : List EndOfCode) (a b d : List ℕ) → Replaces owns a b → Replaces owns b d → Replaces owns a d
through owns a b d h k = record { within = λ w. k.within (h.within w); walks = λ c es are leaves w. k.walks c es are leaves (h.walks c es are leaves w) }

module _ (owns : List EndOfCode) (kept : List ℕ) (next : ℕ) (detour : EndsInDetour owns kept next) (rest : List ℕ) where
  shorter : Replaces owns (detour.front ++ detour.before ∷ detour.last ∷ next ∷ rest) (detour.front ++ detour.before ∷ next ∷ rest)
  shorter =
      record {
        within =
            below_some (length owns) (detour.front ++ detour.before ∷ detour.last ∷ next ∷ rest) (detour.front ++ detour.before ∷ next ∷ rest)
            (λ y m. in_past detour.front detour.before detour.last (next ∷ rest) y m);
        walks = λ c es are leaves w.
            past c es detour.front detour.before detour.last next rest
            (λ e f h k.
            let one = one_end owns es are detour.before detour.one e detour.one_is h in
            let other = one_end owns es are next detour.other f detour.other_is k in
            let r = elements_meant detour.one detour.other e f detour.elements one other in
            (r.0, inr (inr (leaves detour.before e h r.0, leaves next f k r.1, r.2))))
            w;
      }

  dropped : (new : List ℕ) → new ≡ take (length kept - 1) kept → Replaces owns (kept ++ next ∷ rest) (new ++ next ∷ rest)
  dropped new is =
      let old_is : kept ++ next ∷ rest ≡ detour.front ++ detour.before ∷ detour.last ∷ next ∷ rest =
      ap (λ xs. xs ++ next ∷ rest) detour.is ∙ append_assoc detour.front (detour.before ∷ detour.last ∷ []) (next ∷ rest) in
      let new_is : new ++ next ∷ rest ≡ detour.front ++ detour.before ∷ next ∷ rest =
      ap (λ xs. xs ++ next ∷ rest) (is ∙ front_of kept detour.front detour.before detour.last detour.is) ∙ append_assoc detour.front (detour.before ∷ []) (next ∷ rest) in
      subst (λ xs. Replaces owns xs (new ++ next ∷ rest)) (sym old_is)
      (subst (Replaces owns (detour.front ++ detour.before ∷ detour.last ∷ next ∷ rest)) (sym new_is) shorter)

direct_left : (owns : List EndOfCode) (xs ys : List ℕ) → IsDirect owns (xs ++ ys) → IsDirect owns xs
direct_left owns xs ys direct i x at d =
    let within = slice_get_within xs i x at in
    let same : take i (xs ++ ys) ≡ take i xs = take-append-le i xs ys (omega arith) in
    direct i x (get_left xs ys i within ∙ at) (subst (λ l. EndsInDetour owns l x) (sym same) d)

pub direct_with : (owns : List EndOfCode) (xs : List ℕ) (x : ℕ) → IsDirect owns xs → (EndsInDetour owns xs x → ⊥) → IsDirect owns (xs ++ x ∷ [])
direct_with owns xs x direct apart i z at d = by (cases_lt i (length xs))
  where
    by : (i < length xs) ⊎ (length xs ≤ i) → ⊥
    by (inl lt) =
        let same : take i (xs ++ x ∷ []) ≡ take i xs = take-append-le i xs (x ∷ []) (omega arith) in
        direct i z (sym (get_left xs (x ∷ []) i lt) ∙ at) (subst (λ l. EndsInDetour owns l z) same d)
    by (inr ge) =
        let place : i ≡ length xs = omega (arith, ge, slice_get_within (xs ++ x ∷ []) i z at, length-append xs (x ∷ [])) in
        let same : z ≡ x = same_Some z x (sym at ∙ ap (slice_get (xs ++ x ∷ [])) place ∙ get_behind xs [] x) in
        let front : take i (xs ++ x ∷ []) ≡ xs = ap (λ n. take n (xs ++ x ∷ [])) place ∙ take-append_seam xs (x ∷ []) in
        apart (subst (λ l. EndsInDetour owns l x) front (subst (EndsInDetour owns (take i (xs ++ x ∷ []))) same d))

pub direct_none : (owns : List EndOfCode) (xs : List ℕ) → xs ≡ [] → IsDirect owns xs
direct_none owns xs none i x at d = absurd (none-some x (ap (λ l. slice_get l i) (sym none) ∙ at))

-- the last of the numbers is dropped
pub one_dropped : (owns : List EndOfCode) (next : ℕ) (old : List ℕ) (kept : Vec ℕ Global) (new : List ℕ) → ReplacesHead owns next old kept.items → EndsInDetour owns kept.items next
    → new ≡ take (vec_len kept - 1) kept.items → ReplacesHead owns next old new
one_dropped owns next old kept new h detour taken =
    let numbers = kept.items in
    let is : new ≡ take (length numbers - 1) numbers = taken ∙ ap (λ n. take (n - 1) numbers) kept.ok.0 in
    let front : new ≡ detour.front ++ detour.before ∷ [] = is ∙ front_of numbers detour.front detour.before detour.last detour.is in
    let whole : numbers ≡ new ++ detour.last ∷ [] =
    detour.is ∙ sym (append_assoc detour.front (detour.before ∷ []) (detour.last ∷ [])) ∙ ap (λ xs. xs ++ detour.last ∷ []) (sym front) in
    record {
      within = λ w. below_left (length owns) new (detour.last ∷ []) (subst (AllBelow (length owns)) whole (h.within w));
      direct = λ d. direct_left owns new (detour.last ∷ []) (subst (IsDirect owns) whole (h.direct d));
      walks = λ rest. through owns (old ++ next ∷ rest) (numbers ++ next ∷ rest) (new ++ next ∷ rest) (h.walks rest) (dropped owns numbers next detour rest new is);
    }

-- and the next is put behind
pub one_kept : (owns : List EndOfCode) (walk kept shorter longer : List ℕ) (i x : ℕ) → slice_get walk i ≡ Some x → Replaces owns walk (kept ++ drop i walk)
    → ReplacesHead owns x kept shorter → longer ≡ shorter ++ x ∷ [] → Replaces owns walk (longer ++ drop (i + 1) walk)
one_kept owns walk kept shorter longer i x at h r pushed =
    let rest = drop (i + 1) walk in
    let left : drop i walk ≡ x ∷ rest = drop_more walk i x (slice_get_within walk i x at) ∙ ap (λ y. y ∷ rest) (get_or_from_slice_get walk i x x at) in
    let from : Replaces owns walk (kept ++ x ∷ rest) = subst (λ xs. Replaces owns walk (kept ++ xs)) left h in
    let to : Replaces owns walk (shorter ++ x ∷ rest) = through owns walk (kept ++ x ∷ rest) (shorter ++ x ∷ rest) from (r.walks rest) in
    let is : longer ++ rest ≡ shorter ++ x ∷ rest = ap (λ xs. xs ++ rest) pushed ∙ append_assoc shorter (x ∷ []) rest in
    subst (Replaces owns walk) (sym is) to

pub none_kept : (owns : List EndOfCode) (walk kept : List ℕ) → kept ≡ [] → Replaces owns walk (kept ++ drop 0 walk)
none_kept owns walk kept is = subst (λ xs. Replaces owns walk (xs ++ walk)) (sym is) (record { within = λ w. w; walks = λ c es are leaves w. w })

pub all_kept : (owns : List EndOfCode) (walk kept : List ℕ) (i : ℕ) → length walk ≤ i → Replaces owns walk (kept ++ drop i walk) → Replaces owns walk kept
all_kept owns walk kept i past h = subst (Replaces owns walk) (ap (λ xs. kept ++ xs) (drop_all i walk past) ∙ append-nil kept) h
