-- Segments in files that stay, and files that are read as they were put.
use Rattle.std.proofs.Common.{◌≡◌, ℕ, List, Option, Some, refl, ap, sym, subst, ◌∙◌}
use Rattle.ri_base.specs.Documents.{Document}
use Rattle.store_ends.specs.Files.{File, Files, whole}
use Rattle.disk_index.specs.Names.{segment_name}
use Rattle.disk_index.specs.Reads.{HasSegment, IsIntact, ShowsDamage}

some_files : (f g : Files) → Some f ≡ Some g → f ≡ g
some_files f g e = cc

-- the segment that was put in a file is there where the file stays
pub has-moved : (a c : Option Files) (g : Files) (n : ℕ) (docs : List Document) (h : HasSegment a n docs) → c ≡ Some g → g (segment_name n) ≡ h.files (segment_name n) → HasSegment c n docs
has-moved a c g n docs h told same = record {
  files = g;
  is_told = told;
  file = ap (λ (x : File). x.put) same ∙ h.file;
  part = h.part;
  small = h.small;
  shows = subst (λ (x : File). ShowsDamage docs x.read) (sym same) h.shows;
}

intact-told : (c : Option Files) (g : Files) (n : ℕ) → c ≡ Some g → (g (segment_name n)).read ≡ (g (segment_name n)).put → IsIntact c n
intact-told c g n told same files is =
    let one : g ≡ files = some_files g files (sym told ∙ is) in
    subst (λ (f : Files). (f (segment_name n)).read ≡ (f (segment_name n)).put) one same

-- the file is read as it was put where it stays
pub intact-moved : (a c : Option Files) (f g : Files) (n : ℕ) → a ≡ Some f → c ≡ Some g → g (segment_name n) ≡ f (segment_name n) → IsIntact a n → IsIntact c n
intact-moved a c f g n told now same intact = intact-told c g n now (subst (λ (x : File). x.read ≡ x.put) (sym same) (intact f told))

-- and where it was put just now
pub intact-put : (c : Option Files) (g : Files) (n : ℕ) (state : Option (List ℕ)) → c ≡ Some g → g (segment_name n) ≡ whole state → IsIntact c n
intact-put c g n state told is = intact-told c g n told (subst (λ (x : File). x.read ≡ x.put) (sym is) refl)
