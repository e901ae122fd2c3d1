use Rattle.std.proofs.Common.{sym, subst}
use Rattle.manifest.specs.Fits.{IsManifest}
use Rattle.manifest.proofs.writing.text_of.Goals as goal

pub listing_bytes-requires : goal.listing_bytes-requires
listing_bytes-requires c =
    rw (c.as_slice.ensures, c.as_slice-2.ensures, c.as_slice-3.ensures) (subst IsManifest (sym c.requires.1.1) c.requires)
