-- In each module the live statements of a leaf go beside the drives that are live for it, and no drive stands twice.
use Rattle.std.proofs.Common.{◌≡◌, ℕ, ◌<◌, List, [], ◌∷◌, ◌++◌, drop, flat_map, length, refl, sym, ap, ap₂, ◌∙◌, subst, append-nil, inl, inr, ⊎_elim}
use Rattle.fir_base.specs.Lists.{Distinct, In}
use Rattle.fir_base.proofs.Members.{in_flat_map, in_flat_map_from}
use Rattle.fir_ast.specs.declared.place.Place.{Place}
use Rattle.fir_meaning.specs.ModuleScenes.{Scene, behind_all_ports}
use Rattle.fir_meaning.specs.SourceChoices.{IsLive, are_taken}
use Rattle.fir_meaning.specs.SourceDrives.{Drive, module_drives}
use Rattle.fir_meaning.specs.SourceFacts.{source_depth}
use Rattle.fir_meaning.specs.SourceUndriven.{told_all}
use Rattle.fir_meaning.specs.Visits.{module_visits}
use Rattle.fir_meaning.specs.working.Choices.{Live, lives_all}
use Rattle.fir_meaning.specs.working.LeafModules.{depth_at}
use Rattle.fir_meaning.specs.working.LeafedModules.{leafed_module, module_leaves}
use Rattle.fir_leaf.specs.working.ClockFaults.{live_places}
use Rattle.fir_design.proofs.FineScenes.{IsFineScene, leaf_path}
use Rattle.fir_design.proofs.SourceLeaves.{source_depth_is}
use Rattle.fir_source_faults.specs.working.ReadsByPath.{ReadsByPath, path_in, scope_of_module}
use Rattle.fir_source_faults.proofs.TakenBranches.{drop_nothing}
use Rattle.fir_design_faults.proofs.ClockMarks.{IsNever, IsReached, Marked, SameSides, last_in, marked_still}
use Rattle.fir_design_faults.proofs.MarkedBlocks.{block_full}
use Rattle.fir_design_faults.proofs.MarkedPieces.{Full}

-- drives of which these are live, beside live statements
module _ (s : Scene) (P : Drive → Type 0) where
  abbrev pub Beside : List Drive → List Live → Type 0
  Beside = Marked s P (λ d. P d → ⊥)

  pub marked_live : (ds : List Drive) (ls : List Live) → Marked s P (λ d. P d → ⊥) ds ls → (l : Live) → In ls l → (d : Drive) × P d × SameSides s l d
  marked_live [] ls h l i = absurd (subst (λ (ms : List Live). In ms l) h i)
  marked_live (d ∷ ds) ls (inl h) l i = marked_live ds ls h.1 l i
  marked_live (d ∷ ds) ls (inr h) l i =
      ⊎_elim (λ (e : h.0 ≡ l). (d, h.3, subst (λ (m : Live). SameSides s m d) e h.4)) (λ (j : In h.1 l). marked_live ds h.1 h.5 l j)
      (subst (λ (ms : List Live). In ms l) h.2 i)

  pub marked_drive : (ds : List Drive) (ls : List Live) → Marked s P (λ d. P d → ⊥) ds ls → (d : Drive) → In ds d → P d
      → (l : Live) × In ls l × SameSides s l d
  marked_drive [] ls h d i p = absurd i
  marked_drive (c ∷ ds) ls (inl h) d (inl e) p = absurd (h.0 (subst P (sym e) p))
  marked_drive (c ∷ ds) ls (inl h) d (inr i) p = marked_drive ds ls h.1 d i p
  marked_drive (c ∷ ds) ls (inr h) d (inl e) p =
      (h.0, subst (λ (ms : List Live). In ms h.0) (sym h.2) (inl refl), subst (λ (b : Drive). SameSides s h.0 b) e h.4)
  marked_drive (c ∷ ds) ls (inr h) d (inr i) p =
      let more = marked_drive ds h.1 h.5 d i p in
      (more.0, subst (λ (ms : List Live). In ms more.0) (sym h.2) (inr more.1), more.2)

  -- the first that is live
  pub record IsNext (ds : List Drive) (l : Live) (rest : List Live) : Type 0 where
    pub before : List Drive
    pub drive : Drive
    pub after : List Drive
    pub are : ds ≡ before ++ drive ∷ after
    pub none_before : (d : Drive) → In before d → P d → ⊥
    pub is_live : P drive
    pub same : SameSides s l drive
    pub others : Marked s P (λ d. P d → ⊥) after rest

  pub next_of : (ds : List Drive) (l : Live) (rest : List Live) → Marked s P (λ d. P d → ⊥) ds (l ∷ rest) → IsNext ds l rest
  next_of [] l rest h = absurd (cc)
  next_of (d ∷ ds) l rest (inl h) =
      let next = next_of ds l rest h.1 in
      record {
        before = d ∷ next.before;
        drive = next.drive;
        after = next.after;
        are = ap (λ (es : List Drive). d ∷ es) next.are;
        none_before = λ e i. ⊎_elim (λ (same : d ≡ e). λ (p : P e). h.0 (subst P (sym same) p)) (λ (j : In next.before e). next.none_before e j) i;
        is_live = next.is_live;
        same = next.same;
        others = next.others;
      }
  next_of (d ∷ ds) l rest (inr h) =
      let first : l ≡ h.0 = cc in
      let more : rest ≡ h.1 = cc in
      record {
        before = [];
        drive = d;
        after = ds;
        are = refl;
        none_before = λ e i. absurd i;
        is_live = h.3;
        same = subst (λ (m : Live). SameSides s m d) (sym first) h.4;
        others = subst (Marked s P (λ d. P d → ⊥) ds) (sym more) h.5;
      }

  pub next_back : (before : List Drive) (d : Drive) (after : List Drive) (ls : List Live) → Marked s P (λ d. P d → ⊥) (before ++ d ∷ after) ls
      → ((e : Drive) → In before e → P e → ⊥) → P d
      → (l : Live) × (rest : List Live) × (ls ≡ l ∷ rest) × SameSides s l d × Marked s P (λ d. P d → ⊥) after rest
  next_back [] d after ls (inl h) none p = absurd (h.0 p)
  next_back [] d after ls (inr h) none p = (h.0, h.1, h.2, h.4, h.5)
  next_back (c ∷ before) d after ls (inl h) none p = next_back before d after ls h.1 (λ e i. none e (inr i)) p
  next_back (c ∷ before) d after ls (inr h) none p = absurd (none c (inl refl) h.3)

  none_left : (ds : List Drive) (ls : List Live) → Marked s P (λ d. P d → ⊥) ds ls → ((d : Drive) → In ds d → P d → ⊥) → ls ≡ []
  none_left [] ls h none = h
  none_left (d ∷ ds) ls (inl h) none = none_left ds ls h.1 (λ e i. none e (inr i))
  none_left (d ∷ ds) ls (inr h) none = absurd (none d (inl refl) h.3)

  -- the only one
  pub one_of : (ds : List Drive) (l : Live) → Marked s P (λ d. P d → ⊥) ds (l ∷ [])
      → (d : Drive) × P d × SameSides s l d × ((e : Drive) → In ds e → P e → e ≡ d)
  one_of ds l h =
      let next = next_of ds l [] h in (
        next.drive,
        next.is_live,
        next.same,
        λ e i p. by next.before next.drive next.after next.none_before next.others e (subst (λ (es : List Drive). In es e) next.are i) p,
      )
    where
      by : (before : List Drive) (d : Drive) (after : List Drive) → ((e : Drive) → In before e → P e → ⊥) → Marked s P (λ d. P d → ⊥) after []
          → (e : Drive) → In (before ++ d ∷ after) e → P e → e ≡ d
      by [] d after none others e (inl same) p = sym same
      by [] d after none others e (inr i) p = absurd ((marked_drive after [] others e i p).1)
      by (c ∷ before) d after none others e (inl same) p = absurd (none c (inl refl) (subst P (sym same) p))
      by (c ∷ before) d after none others e (inr i) p = by before d after (λ f j. none f (inr j)) others e i p

  pub one_back : (ds : List Drive) (ls : List Live) (d : Drive) → Distinct ds → Marked s P (λ d. P d → ⊥) ds ls → In ds d → P d
      → ((e : Drive) → In ds e → P e → e ≡ d) → (l : Live) × (ls ≡ l ∷ []) × SameSides s l d
  one_back [] ls d once h i p only = absurd i
  one_back (c ∷ ds) ls d once (inl h) (inl e) p only = absurd (h.0 (subst P (sym e) p))
  one_back (c ∷ ds) ls d once (inl h) (inr i) p only = one_back ds ls d once.1 h.1 i p (λ e j. only e (inr j))
  one_back (c ∷ ds) ls d once (inr h) i p only =
      let is : c ≡ d = only c (inl refl) h.3 in
      let none : h.1 ≡ [] =
      none_left ds h.1 h.5 (λ e j q. once.0 (subst (In ds) (only e (inr j) q ∙ sym is) j)) in
      (h.0, h.2 ∙ ap (λ (ms : List Live). h.0 ∷ ms) none, subst (λ (b : Drive). SameSides s h.0 b) is h.4)

  -- the places of indices
  places_are : (l : Live) (d : Drive) → SameSides s l d → live_places l ≡ d.driven.index_places ++ d.given.index_places
  places_are l d h = ap₂ (λ (xs ys : List Place). xs ++ ys) h.through h.given.places

  pub picked_of : (ds : List Drive) (ls : List Live) (p : Place) → Marked s P (λ d. P d → ⊥) ds ls → In (flat_map live_places ls) p
      → (d : Drive) × P d × In (d.driven.index_places ++ d.given.index_places) p
  picked_of ds ls p h i =
      let from = in_flat_map_from live_places ls p i in
      let to = marked_live ds ls h from.0 from.1 in
      (to.0, to.1, subst (λ (ps : List Place). In ps p) (places_are from.0 to.0 to.2) from.2)

  pub picked_back : (ds : List Drive) (ls : List Live) (p : Place) → Marked s P (λ d. P d → ⊥) ds ls → (d : Drive) → In ds d → P d
      → In (d.driven.index_places ++ d.given.index_places) p → In (flat_map live_places ls) p
  picked_back ds ls p h d i q j =
      let to = marked_drive ds ls h d i q in
      in_flat_map live_places ls to.0 p to.1 (subst (λ (ps : List Place). In ps p) (sym (places_are to.0 d to.2)) j)

module _ (s : Scene) (fine : IsFineScene s) (reading : ReadsByPath s) (x : ℕ) (lt : x < length (module_leaves s)) where
  abbrev pub IsLiveFor : Drive → Type 0
  IsLiveFor = IsLive (source_depth s (path_in s x)) (path_in s x) (module_drives s)

  whole : Full s (source_depth s (path_in s x)) x [] [] 0 (leafed_module s).body (module_drives s)
      (told_all s (source_depth s (path_in s x)) (path_in s x) (module_visits s.own.inside))
  whole =
      block_full s fine (source_depth s (path_in s x)) x reading lt s.own.inside.body (behind_all_ports s.own.inside) [] [] 0 refl
      ([], append-nil (scope_of_module s)) fine.legal

  depth_is : depth_at (leafed_module s) x ≡ source_depth s (path_in s x)
  depth_is = sym (ap (source_depth s) (leaf_path s fine x) ∙ source_depth_is s fine x lt)

  pub drives_once : Distinct (module_drives s)
  drives_once = whole.kept.once

  pub live_in : (d : Drive) → IsLive (source_depth s (path_in s x)) (path_in s x) (module_drives s) d → In (module_drives s) d
  live_in d h = last_in (source_depth s (path_in s x)) (path_in s x) h.choice (module_drives s) d h.last

  pub drives_marked : Marked s (IsLive (source_depth s (path_in s x)) (path_in s x) (module_drives s))
      (λ d. IsLive (source_depth s (path_in s x)) (path_in s x) (module_drives s) d → ⊥) (module_drives s)
      (lives_all (depth_at (leafed_module s) x) x (leafed_module s).body 0)
  drives_marked =
      let depth = source_depth s (path_in s x) in
      let path = path_in s x in
      let ds = module_drives s in
      subst (λ n. Marked s (IsLive depth path ds) (λ d. IsLive depth path ds d → ⊥) ds (lives_all n x (leafed_module s).body 0)) (sym depth_is)
      (marked_still s (IsReached depth path [] (drop depth []) ds) (IsNever depth path ds) (IsLive depth path ds) (λ d. IsLive depth path ds d → ⊥) ds
      (lives_all depth x (leafed_module s).body 0)
      (λ d i r. record { choice = r.0; last = r.1 r.0 (λ w. refl) (ap (are_taken r.0) (drop_nothing depth)) })
      (λ d i n live. n live.choice live.last) whole.kept.marks)
