-- The last drive of the circuit's module is that of its output: it stands in no when, and reads the register that is declared last.
use Rattle.std.proofs.Common.{◌≡◌, ℕ, List, [], ◌∷◌, ◌++◌, Bool, true, false, flat_map, Option, Some, refl, sym, ap, ap₂, ◌∙◌, subst, inl, inr, append_assoc, append-nil}
use Rattle.std.specs.Prelude.{codes}
use Rattle.std.proofs.Math.Seq.{drop-nil}
use Rattle.fir_base.specs.Lists.{In}
use Rattle.fir_ast.specs.declared.place.Place.{Place}
use Rattle.fir_ast.specs.Types.{DataType, clock, uint}
use Rattle.fir_ast.specs.Statements.{Block, connect}
use Rattle.fir_meaning.specs.ConnectPairs.{ground_pair, pairs}
use Rattle.fir_meaning.specs.LeafPaths.{LeafPath, named}
use Rattle.fir_meaning.specs.ModuleScenes.{Scene, scope_before}
use Rattle.fir_meaning.specs.SourceChoices.{Choice, last_reaching, live_reads, reaches}
use Rattle.fir_meaning.specs.SourceDrives.{Drive, drives, pair_drives, side}
use Rattle.fir_meaning.specs.Visibility.{Before, behind}
use Rattle.fir_meaning.specs.Visits.{visit, visits_in}
use Rattle.fir_gen.specs.working.GenTree.{plain, plain_sink}
use Rattle.fir_gen_driven.proofs.PlainScopes.{IsPlain, IsReady, StandsFor, ready_behind, stands_for}
use Rattle.fir_gen_driven.proofs.BodyTails.{IsTail, chosen, declared, driven, register_of, shown}

abbrev pub output : LeafPath
output = named (codes "y") ∷ []

-- the last of the drives is that of the output
pub record EndsInOutput (ds : List Drive) : Type 0 where
  pub front : List Drive
  pub last : Drive
  pub is : ds ≡ front ++ last ∷ []
  pub under : last.under ≡ []
  pub leaves : last.driven.leaves ≡ output ∷ []
  pub unpicked : last.driven.is_picked ≡ false
  pub index_reads : last.driven.index_reads ≡ []
  pub reads : In last.given.reads output → ⊥

pub ends_behind : (xs ds : List Drive) → EndsInOutput ds → EndsInOutput (xs ++ ds)
ends_behind xs ds h = record {
  front = xs ++ h.front;
  last = h.last;
  is = ap (λ es. xs ++ es) h.is ∙ sym (append_assoc xs h.front (h.last ∷ []));
  under = h.under;
  leaves = h.leaves;
  unpicked = h.unpicked;
  index_reads = h.index_reads;
  reads = h.reads;
}

number_meets : (w : Option ℕ) (u : DataType) → IsPlain (Some u) → pairs (uint w) u ≡ ground_pair (uint w) u
number_meets w (uint v) h = refl
number_meets w clock h = refl
number_meets w u h = absurd h

clock_meets : (u : DataType) → IsPlain (Some u) → pairs clock u ≡ ground_pair clock u
clock_meets (uint v) h = refl
clock_meets clock h = refl
clock_meets u h = absurd h

meet : (t u : DataType) → IsPlain (Some t) → IsPlain (Some u) → pairs t u ≡ ground_pair t u
meet (uint w) u g h = number_meets w u h
meet clock u g h = clock_meets u h
meet t u g h = absurd g

module _ (s : Scene) where
  -- a connect of the output alone
  output_drive : (way : List Bool) (before : Before) (p q r : Place) (name : List ℕ) → (name ≡ codes "y" → ⊥) → IsReady s.own.modules before name
      → EndsInOutput (drives s (visit way before [] (connect p (plain_sink q (codes "y")) (plain r name))))
  output_drive way before p q r name other ready =
      let scope = scope_before s before in
      let left : StandsFor scope (codes "y") = stands_for scope (codes "y") ready.all ready.output in
      let right : StandsFor scope name = stands_for scope name ready.all ready.last in
      let sink = plain q (codes "y") in
      let given = plain r name in
      let v = visit way before [] (connect p (plain_sink q (codes "y")) given) in
      let one = meet left.data_type right.data_type left.is_plain right.is_plain in
      record {
        front = [];
        last = record {
          way = way ++ false ∷ [];
          place = p;
          under = [];
          driven = side scope sink [];
          given = side scope given [];
        };
        is = ap (pair_drives s v way p sink given) (ap₂ pairs (left.typed q) (right.typed r) ∙ one);
        under = refl;
        leaves = left.leaves;
        unpicked = refl;
        index_reads = refl;
        reads = λ among. unread (subst (λ (ps : List LeafPath). In ps output) right.leaves among);
      }
    where
      unread : In ((named name ∷ []) ∷ []) output → ⊥
      unread (inl e) = other cc
      unread (inr h) = h

  pub tail_drives : {name : List ℕ} → (b : Block) → IsTail name b → (way : List Bool) (before : Before) → IsReady s.own.modules before name
      → EndsInOutput (flat_map (drives s) (visits_in way before [] b))
  tail_drives {name} b (shown p q r other) way before ready =
      subst EndsInOutput (sym (append-nil _)) (output_drive (way ++ false ∷ []) before p q r name other ready)
  tail_drives {name} b (declared {name = next} {b = rest} p q t c r condition init tail) way before ready =
      tail_drives rest tail (way ++ true ∷ []) (behind before (register_of p q next t c r condition init))
      (ready_behind s.own.modules before name (record { place = q; name = next }) ready)
  tail_drives {name} b (driven {b = rest} p sink e tail) way before ready =
      ends_behind _ _ (tail_drives rest tail (way ++ true ∷ []) before ready)
  tail_drives {name} b (chosen {b = rest} p c q sink e r other f tail) way before ready =
      ends_behind _ _ (ends_behind _ _ (tail_drives rest tail (way ++ true ∷ []) before ready))

module _ (depth : ℕ) (f : Choice) where
  reached : (d : Drive) → d.under ≡ [] → d.driven.leaves ≡ output ∷ [] → d.driven.is_picked ≡ false → reaches depth output f d ≡ true
  reached d under leaves unpicked = rw (under, leaves, unpicked, drop-nil depth) refl

  last_of : (front : List Drive) (d : Drive) → reaches depth output f d ≡ true → last_reaching depth output f (front ++ d ∷ []) ≡ Some d
  last_of [] d h = rw h refl
  last_of (x ∷ front) d h = rw (last_of front d h) refl

  -- so under each choice it is the one that is live
  pub output_is_last : (ds : List Drive) (h : EndsInOutput ds) → last_reaching depth output f ds ≡ Some h.last
  output_is_last ds h =
      ap (last_reaching depth output f) h.is ∙ last_of h.front h.last (reached h.last h.under h.leaves h.unpicked)

pub output_reads : (depth : ℕ) (s : Scene) (ds : List Drive) (h : EndsInOutput ds) → live_reads depth output s h.last ≡ h.last.given.reads
output_reads depth s ds h = rw (h.under, drop-nil depth, h.index_reads) refl
