-- What a register shows under an asynchronous reset.
use Rattle.std.proofs.Common.{◌≡◌, ℕ, ◌≤◌, ◌==◌, true, if◌then◌else◌, refl}
use Rattle.fir_net.specs.declared.reads.Read.{Read}
use Rattle.fir_net.specs.declared.net.FlatNet.{FlatNet}
use Rattle.fir_net.specs.working.IsNet.{CanRead, IsNet}
use Rattle.fir_work.specs.declared.work.Work.TheVariants as work
use Rattle.fir_work.specs.working.Forms.{plain}
use Rattle.fir_work.specs.working.Numbers.{number_at, place, type_read}
use Rattle.fir_work.specs.working.Tasks.{IsShownTask}
use Rattle.fir_work.proofs.FitForms.{plain_is}
use Rattle.fir_work.proofs.WholeReads.{read_narrow}

module _ (net : FlatNet) where
  chosen_number : (x y z v : ℕ) → v ≡ y → (if x == 1 then y else z) ≡ (if x == 1 then v else z)
  chosen_number x y z v e = rw e refl

  pub choose_shown : (leaf width : ℕ) (condition init : Read) → (type_read net init).width ≤ width → plain (type_read net init) width ≡ true
      → IsShownTask net leaf width condition init (record { first = place net condition; second = place net init; third = leaf; work = work.Choose })
  choose_shown leaf width condition init wider is = record {
    runs = λ ns fits. tt;
    gives = λ ns fits. chosen_number (number_at ns (place net condition)) _ (number_at ns leaf) _ (plain_is (type_read net init) width (number_at ns (place net init)) wider is);
  }

  pub show_shown : IsNet net → (leaf width : ℕ) (condition init : Read) → CanRead net.leaves net.nodes init → width ≤ 128
      → (let t = type_read net init in
      IsShownTask net leaf width condition init (record { first = place net condition; second = place net init; third = leaf; work = work.Show t.signed t.width width }))
  show_shown whole leaf width condition init can narrow = record {
    runs = λ ns fits. record { narrow = read_narrow net whole init can; to_narrow = narrow; below = fits };
    gives = λ ns fits. refl;
  }
