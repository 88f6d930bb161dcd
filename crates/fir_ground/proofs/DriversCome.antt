-- The drivers of declarations, one after another.
use Rattle.std.proofs.Common.{◌≡◌, List, [], ◌∷◌, ◌++◌, sym, ap, ◌∙◌, append_assoc, append-nil, refl}
use Rattle.std.proofs.lemmas.List.{map-append}
use Rattle.fir_leaf.specs.declared.node.Node.{Node}
use Rattle.fir_leaf.specs.working.Nodes.{Grows}
use Rattle.fir_ground.specs.declared.driver.Driver.{Driver}
use Rattle.fir_ground.specs.working.DeclarationDrivers.{DriverMeant, Driven, driver_seen, drivers_seen}
use Rattle.fir_leaf_pairs.proofs.Entries.{grows_on}

pub driven_none : (nodes : List Node) (before after : List Driver) → after ≡ before → Driven nodes before after []
driven_none nodes before after same = record { added = []; is = same ∙ sym (append-nil before); seen = λ later g. refl }

pub driven_then : (nodes : List Node) (a b c : List Driver) (xs ys : List DriverMeant) → Driven nodes a b xs → Driven nodes b c ys → Driven nodes a c (xs ++ ys)
driven_then nodes a b c xs ys h k = record {
  added = h.added ++ k.added;
  is = k.is ∙ ap (λ l. l ++ k.added) h.is ∙ append_assoc a h.added k.added;
  seen = λ later g.
      map-append (driver_seen later) h.added k.added ∙ ap (λ l. l ++ drivers_seen later k.added) (h.seen later g) ∙ ap (λ l. xs ++ l) (k.seen later g);
}

pub driven_as : (nodes : List Node) (a b : List Driver) (xs ys : List DriverMeant) → xs ≡ ys → Driven nodes a b xs → Driven nodes a b ys
driven_as nodes a b xs ys e h = record { added = h.added; is = h.is; seen = λ later g. h.seen later g ∙ e }

pub driven_later : (nodes later : List Node) (a b : List Driver) (xs : List DriverMeant) → Grows nodes later → Driven nodes a b xs → Driven later a b xs
driven_later nodes later a b xs g h = record { added = h.added; is = h.is; seen = λ more k. h.seen more (grows_on nodes later more g k) }

-- one declaration
pub driven_one : (nodes : List Node) (before after : List Driver) (d : Driver) (x : DriverMeant) → after ≡ before ++ d ∷ []
    → ((later : List Node) → Grows nodes later → driver_seen later d ≡ x) → Driven nodes before after (x ∷ [])
driven_one nodes before after d x grown is = record { added = d ∷ []; is = grown; seen = λ later g. ap (λ y. y ∷ []) (is later g) }
