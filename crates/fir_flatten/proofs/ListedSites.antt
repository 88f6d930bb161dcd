-- Live statements that are listed one behind the other, the last of the text first.
use Rattle.std.proofs.Common.{◌≡◌, ℕ, ◌+◌, ◌<◌, List, [], ◌∷◌, ◌++◌, map, reverse, Bool, true, false, ◌&&◌, ◌||◌, drop, take, get_or, length, refl, sym, ap, ◌∙◌, subst, append_assoc, append-nil}
use Rattle.std.proofs.lemmas.List.{at_drop_more, map-append, reverse-append, take-append-drop}
use Rattle.fir_leaf.specs.declared.node.Node.{Node}
use Rattle.fir_leaf.specs.declared.statement.LeafStmt.{LeafStmt}
use Rattle.fir_leaf.specs.working.NodeBlocks.{block_in, block_of, statement_in}
use Rattle.fir_meaning.specs.working.Terms.{Term}
use Rattle.fir_meaning.specs.working.LeafBlocks.{LeafStatement, then}
use Rattle.fir_meaning.specs.working.Choices.{Live, below, covers_all, lives_all, unless}
use Rattle.fir_flatten.specs.declared.live_sites.LiveSite.{LiveSite}
use Rattle.fir_flatten.specs.declared.live_sites.Sought.{Sought}
use Rattle.fir_flatten.specs.working.LiveSites.{AreSitesOf, Lists, ListsBlock, ListsStatement, TellOf}

tell_both : (ls ms : List Live) (xs ys : List LiveSite) → TellOf ls xs → TellOf ms ys → TellOf (ls ++ ms) (xs ++ ys)
tell_both [] ms [] ys h k = k
tell_both [] ms (x ∷ xs) ys h k = absurd h
tell_both (l ∷ ls) ms [] ys h k = absurd h
tell_both (l ∷ ls) ms (x ∷ xs) ys h k = (h.0, tell_both ls ms xs ys h.1 k)

tell_below : (c : Term) (ls : List Live) (xs : List LiveSite) → TellOf ls xs → TellOf (map (below c) ls) xs
tell_below c [] [] h = tt
tell_below c [] (x ∷ xs) h = absurd h
tell_below c (l ∷ ls) [] h = absurd h
tell_below c (l ∷ ls) (x ∷ xs) h = (record { place = h.0.place; index = h.0.index }, tell_below c ls xs h.1)

-- what comes later in the text is listed first
sites_both : (ls ms : List Live) (xs ys : List LiveSite) → AreSitesOf ls xs → AreSitesOf ms ys → AreSitesOf (ls ++ ms) (ys ++ xs)
sites_both ls ms xs ys h k = subst (TellOf (ls ++ ms)) (sym (reverse-append ys xs)) (tell_both ls ms (reverse xs) (reverse ys) h k)

pub lists_none : (before : List LiveSite) → Lists [] false false before before
lists_none before = record { covered = refl; added = []; grows = sym (append-nil before); sites = tt }

pub lists_as : (ls ms : List Live) (c d told : Bool) (before after : List LiveSite) → ls ≡ ms → c ≡ d → Lists ls c told before after
    → Lists ms d told before after
lists_as ls ms c d told before after e f h = record {
  covered = h.covered ∙ f;
  added = h.added;
  grows = h.grows;
  sites = subst (λ (ns : List Live). AreSitesOf ns h.added) e h.sites;
}

-- those of what comes later, which covers the leaf
pub lists_covered : (ls ms : List Live) (later earlier : Bool) (before after : List LiveSite) → Lists ms later true before after
    → Lists (unless later ls ++ ms) (later || earlier) true before after
lists_covered ls ms later earlier before after h =
    let covered : true ≡ later = h.covered in
    rw (← covered) (record { covered = refl; added = h.added; grows = h.grows; sites = h.sites })

-- and behind them those of what comes earlier
pub lists_then : (ls ms : List Live) (later earlier told : Bool) (before between after : List LiveSite) → Lists ms later false before between
    → Lists ls earlier told between after → Lists (unless later ls ++ ms) (later || earlier) told before after
lists_then ls ms later earlier told before between after h k =
    let uncovered : false ≡ later = h.covered in
    rw (← uncovered)
    (record {
      covered = k.covered;
      added = h.added ++ k.added;
      grows = k.grows ∙ ap (λ l. l ++ k.added) h.grows ∙ append_assoc before h.added k.added;
      sites = sites_both ls ms k.added h.added k.sites h.sites;
    })

-- those of both blocks of a when
pub lists_within : (c : Term) (ls ms : List Live) (ca cb first second told : Bool) (before between after : List LiveSite) → Lists ms cb second before between
    → Lists ls ca first between after → told ≡ (first && second) → Lists (map (below c) (ls ++ ms)) (ca && cb) told before after
lists_within c ls ms ca cb first second told before between after h k e = record {
  covered = e ∙ rw (h.covered, k.covered) refl;
  added = h.added ++ k.added;
  grows = k.grows ∙ ap (λ l. l ++ k.added) h.grows ∙ append_assoc before h.added k.added;
  sites = tell_below c (ls ++ ms) (reverse (h.added ++ k.added)) (sites_both ls ms k.added h.added k.sites h.sites);
}

-- before statements that cover the leaf none is live
covered_behind : (depth x k : ℕ) (ss rest : List LeafStatement) → covers_all depth x (block_of rest) k ≡ true
    → (covers_all depth x (block_of (ss ++ rest)) k ≡ true) × (lives_all depth x (block_of (ss ++ rest)) k ≡ lives_all depth x (block_of rest) k)
covered_behind depth x k [] rest c = (c, refl)
covered_behind depth x k (s ∷ ss) rest c =
    let r = covered_behind depth x k ss rest c in
    let covered = r.0 in
    (rw covered refl, rw covered r.1)

module _ (sought : Sought) (nodes : List Node) (k : ℕ) (body : List LeafStmt) where
  first_left : (i n : ℕ) (s : LeafStmt) → i + 1 ≡ n → i < length body → s ≡ get_or body i s
      → (then) (statement_in nodes s) (block_in nodes (drop n body)) ≡ block_in nodes (drop i body)
  first_left i n s next lt is =
      sym (at_drop_more (block_in nodes) body i s lt
      ∙ ap (λ y. (then) (statement_in nodes y) (block_in nodes (drop (i + 1) body))) (sym is)
      ∙ ap (λ m. (then) (statement_in nodes s) (block_in nodes (drop m body))) next)

  -- one statement more, from the end
  pub block_lists_more : (i n : ℕ) (s : LeafStmt) (told : Bool) (before between after : List LiveSite) → i + 1 ≡ n → i < length body → s ≡ get_or body i s
      → ListsBlock sought (block_in nodes (drop n body)) k false before between → ListsStatement sought (statement_in nodes s) k told between after
      → ListsBlock sought (block_in nodes (drop i body)) k told before after
  block_lists_more i n s told before between after next lt is h g =
      subst (λ b. ListsBlock sought b k told before after) (first_left i n s next lt is) (lists_then _ _ _ _ told before between after h g)

  -- the statements before one that covers the leaf
  pub block_lists_all : (i : ℕ) (before after : List LiveSite) → ListsBlock sought (block_in nodes (drop i body)) k true before after
      → ListsBlock sought (block_in nodes body) k true before after
  block_lists_all i before after h =
      let f = statement_in nodes in
      let whole : block_of (map f (take i body) ++ map f (drop i body)) ≡ block_in nodes body =
      ap block_of (sym (map-append f (take i body) (drop i body)) ∙ ap (map f) (take-append-drop i body)) in
      let r = covered_behind sought.depth sought.leaf k (map f (take i body)) (map f (drop i body)) (sym h.covered) in
      subst (λ b. ListsBlock sought b k true before after) whole
      (lists_as _ _ _ _ true before after (sym r.1) (sym h.covered ∙ sym r.0) h)
