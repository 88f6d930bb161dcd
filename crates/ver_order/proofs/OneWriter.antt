-- Of several lists of writes one at most writes to a name: then the name gets the same writes, whatever the order of the lists, and also where they stand side by side.
use Rattle.std.proofs.Common.{◌≡◌, ℕ, List, [], ◌∷◌, ◌++◌, cond, true, false, Bool, refl, sym, ap, ◌∙◌, inl, inr, ◌⊎◌, ⊎_elim, subst}
use Rattle.std.specs.List.{AllByRecursion}
use Rattle.std.specs.Str.{bytes_eq}
use Rattle.ver_ast.specs.Next.{Put}
use Rattle.ver_order.specs.working.Arranged.{IsRearranged, IsInterleaved}
use Rattle.ver_order.proofs.InTurn.{joined}
use Rattle.ver_order.proofs.WritesByName.{writes_to, named_append}

all_empty : (lists : List (List Put)) → AllByRecursion (λ list. list ≡ []) lists → joined lists ≡ []
all_empty [] h = refl
all_empty (list ∷ lists) h = ap (λ ps. ps ++ joined lists) h.0 ∙ all_empty lists h.1

both_empty : {A : Type 0} → (xs ys : List A) → xs ++ ys ≡ [] → (xs ≡ []) × (ys ≡ [])
both_empty [] ys e = (refl, e)
both_empty (x ∷ xs) ys e = absurd (cc)

module _ (n : List ℕ) where
  -- one list at most writes to the name
  abbrev pub AtMostOne : List (List Put) → Type 0
  AtMostOne [] = Unit {0}
  AtMostOne (list ∷ lists) = ((writes_to n list ≡ []) ⊎ (writes_to n (joined lists) ≡ [])) × AtMostOne lists

  -- the writes with one more in front, where that is to the name
  abbrev with_first : Put → List Put → List Put
  with_first p ps = cond (bytes_eq p.name n) (p ∷ ps) ps

  none_left : (p : Put) (ps : List Put) → with_first p ps ≡ [] → ps ≡ []
  none_left p ps e = by (bytes_eq p.name n) e
    where
      by : (b : Bool) → cond b (p ∷ ps) ps ≡ [] → ps ≡ []
      by true h = absurd (cc)
      by false h = h

  -- behind the writes of other lists, of which none is to the name if this one is
  behind : (p : Put) (others ps : List Put) → (others ≡ []) ⊎ (with_first p ps ≡ []) → others ++ with_first p ps ≡ with_first p (others ++ ps)
  behind p others ps h = by (bytes_eq p.name n) h
    where
      by : (b : Bool) → (others ≡ []) ⊎ (cond b (p ∷ ps) ps ≡ []) → others ++ cond b (p ∷ ps) ps ≡ cond b (p ∷ (others ++ ps)) (others ++ ps)
      by true (inl e) = ap (λ qs. qs ++ p ∷ ps) e ∙ sym (ap (λ qs. p ∷ (qs ++ ps)) e)
      by true (inr e) = absurd (cc)
      by false k = refl

  -- the first write that is left of one list
  taken : (p : Put) (left : List Put) (front back : List (List Put)) → AtMostOne (front ++ (p ∷ left) ∷ back)
      → AtMostOne (front ++ left ∷ back)
      × (writes_to n (joined (front ++ (p ∷ left) ∷ back)) ≡ with_first p (writes_to n (joined (front ++ left ∷ back))))
  taken p left [] back h = (
    (⊎_elim (λ (e : with_first p (writes_to n left) ≡ []). inl (none_left p (writes_to n left) e)) (λ (e : writes_to n (joined back) ≡ []). inr e) h.0, h.1),
    refl,
  )
  taken p left (list ∷ front) back h =
      let rest = taken p left front back h.1 in
      let later = writes_to n (joined (front ++ left ∷ back)) in
      let either : (writes_to n list ≡ []) ⊎ (with_first p later ≡ []) =
      ⊎_elim (λ (e : writes_to n list ≡ []). inl e) (λ (e : writes_to n (joined (front ++ (p ∷ left) ∷ back)) ≡ []). inr (sym rest.1 ∙ e)) h.0 in (
        (⊎_elim (λ (e : writes_to n list ≡ []). inl e) (λ (e : with_first p later ≡ []). inr (none_left p later e)) either, rest.0),
        named_append n list (joined (front ++ (p ∷ left) ∷ back)) ∙ ap (λ ps. writes_to n list ++ ps) rest.1 ∙ behind p (writes_to n list) later either
            ∙ ap (with_first p) (sym (named_append n list (joined (front ++ left ∷ back)))),
      )

  pub side_by_side : (ps : List Put) (lists : List (List Put)) → IsInterleaved ps lists → AtMostOne lists → writes_to n ps ≡ writes_to n (joined lists)
  side_by_side [] lists h one = ap (writes_to n) (sym (all_empty lists h))
  side_by_side (p ∷ ps) lists h one =
      let first = taken p h.1 h.0 h.2 (subst AtMostOne h.3 one) in
      ap (with_first p) (side_by_side ps (h.0 ++ h.1 ∷ h.2) h.4 first.0) ∙ sym first.1 ∙ ap (λ ls. writes_to n (joined ls)) (sym h.3)

  -- one list from its place to the front
  record IsMoved (list : List Put) (front back : List (List Put)) : Type 0 where
    same : writes_to n (list ++ joined (front ++ back)) ≡ writes_to n (joined (front ++ list ∷ back))
    others : AtMostOne (front ++ back)
    apart : (writes_to n list ≡ []) ⊎ (writes_to n (joined (front ++ back)) ≡ [])

  past_one_more : (first list : List Put) (front back : List (List Put)) → IsMoved list front back
      → (writes_to n first ≡ []) ⊎ (writes_to n (joined (front ++ list ∷ back)) ≡ []) → IsMoved list (first ∷ front) back
  past_one_more first list front back rest h = ⊎_elim no_first no_later h
    where
      own : List Put
      own = writes_to n list

      firsts : List Put
      firsts = writes_to n first

      others_left : List Put
      others_left = writes_to n (joined (front ++ back))

      later : own ++ others_left ≡ writes_to n (joined (front ++ list ∷ back))
      later = sym (named_append n list (joined (front ++ back))) ∙ rest.same

      same : own ++ (firsts ++ others_left) ≡ firsts ++ (own ++ others_left) → writes_to n (list ++ joined (first ∷ front ++ back)) ≡ writes_to n (joined (first ∷ front ++ list ∷ back))
      same e =
          named_append n list (first ++ joined (front ++ back)) ∙ ap (λ ps. own ++ ps) (named_append n first (joined (front ++ back))) ∙ e
          ∙ ap (λ ps. firsts ++ ps) later ∙ sym (named_append n first (joined (front ++ list ∷ back)))

      no_first : firsts ≡ [] → IsMoved list (first ∷ front) back
      no_first e = record {
        same = same (ap (λ ps. own ++ (ps ++ others_left)) e ∙ sym (ap (λ ps. ps ++ (own ++ others_left)) e));
        others = (inl e, rest.others);
        apart = ⊎_elim (λ (k : own ≡ []). inl k) (λ (k : others_left ≡ []). inr (named_append n first (joined (front ++ back)) ∙ ap (λ ps. ps ++ others_left) e ∙ k)) rest.apart;
      }

      no_later : writes_to n (joined (front ++ list ∷ back)) ≡ [] → IsMoved list (first ∷ front) back
      no_later e =
          let none = both_empty own others_left (later ∙ e) in record {
            same = same (ap (λ ps. ps ++ (firsts ++ others_left)) none.0 ∙ sym (ap (λ ps. firsts ++ (ps ++ others_left)) none.0));
            others = (inr none.1, rest.others);
            apart = inl none.0;
          }

  moved : (list : List Put) (front back : List (List Put)) → AtMostOne (front ++ list ∷ back) → IsMoved list front back
  moved list [] back h = record { same = refl; others = h.1; apart = h.0 }
  moved list (first ∷ front) back h = past_one_more first list front back (moved list front back h.1) h.0

  pub rearranged : (xs ys : List (List Put)) → IsRearranged xs ys → AtMostOne ys → AtMostOne xs × (writes_to n (joined xs) ≡ writes_to n (joined ys))
  rearranged [] ys h one = (tt, ap (λ ls. writes_to n (joined ls)) (sym h))
  rearranged (list ∷ xs) ys h one =
      let first = moved list h.0 h.1 (subst AtMostOne h.2 one) in
      let rest = rearranged xs (h.0 ++ h.1) h.3 first.others in (
        (⊎_elim (λ (e : writes_to n list ≡ []). inl e) (λ (e : writes_to n (joined (h.0 ++ h.1)) ≡ []). inr (rest.1 ∙ e)) first.apart, rest.0),
        named_append n list (joined xs) ∙ ap (λ ps. writes_to n list ++ ps) rest.1 ∙ sym (named_append n list (joined (h.0 ++ h.1))) ∙ first.same
            ∙ ap (λ ls. writes_to n (joined ls)) (sym h.2),
      )
