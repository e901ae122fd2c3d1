use Rattle.std.proofs.Common.{◌≡◌, ◌∙◌, List, Some, ℕ, ap, subst, sym}
use Rattle.store_ends.specs.Files.{Leaves, OldOrNew}
use Rattle.manifest.specs.Fits.{IsManifest}
use Rattle.manifest.specs.Listing.{listing}
use Rattle.manifest.specs.declared.manifest.SegEntry.{SegEntry}
use Rattle.manifest.proofs.ListingLaws.{manifest-of}
use Rattle.manifest.specs.Spelling.{manifest_text}
use Rattle.repository.specs.Entries.{entries_for}
use Rattle.repository.specs.Names.{manifest_name}
use Rattle.repository.proofs.listing.list_files.Goals as goal

pub listing_bytes-requires : goal.listing_bytes-requires
listing_bytes-requires g c =
    let es : c.deref.result.now ≡ entries_for c.args.parts.now = c.deref.ensures.value ∙ c.in_ok-entries.ensures in
    subst (λ (x : List SegEntry). IsManifest (listing c.args.next x c.args.stale.now c.args.priors.now)) (sym es) (manifest-of c.args.next (entries_for c.args.parts.now) c.args.stale.now c.args.priors.now c.requires.form)

pub returns-clause-changed : goal.returns-clause-changed
returns-clause-changed g c =
    let es : c.deref.result.now ≡ entries_for c.args.parts.now = c.deref.ensures.value ∙ c.in_ok-entries.ensures in
    let text : c.as_slice.result.now ≡ manifest_text (listing c.args.next (entries_for c.args.parts.now) c.args.stale.now c.args.priors.now) =
    c.as_slice.ensures ∙ c.in_ok-bytes.ensures ∙ ap (λ (x : List SegEntry). manifest_text (listing c.args.next x c.args.stale.now c.args.priors.now)) es in
    subst (λ (l : List ℕ). OldOrNew manifest_name (Some l) (g.T.Store.files c.args.store.now) (g.T.Store.files c.replace_manifest.new.store)) text c.replace_manifest.ensures.changed

pub returns-clause-stops : goal.returns-clause-stops
returns-clause-stops g c =
    let es : c.deref.result.now ≡ entries_for c.args.parts.now = c.deref.ensures.value ∙ c.in_ok-entries.ensures in
    let text : c.as_slice.result.now ≡ manifest_text (listing c.args.next (entries_for c.args.parts.now) c.args.stale.now c.args.priors.now) =
    c.as_slice.ensures ∙ c.in_ok-bytes.ensures ∙ ap (λ (x : List SegEntry). manifest_text (listing c.args.next x c.args.stale.now c.args.priors.now)) es in
    subst (λ (l : List ℕ). Leaves (g.T.Store.since c.args.store.now) (g.T.Store.since c.replace_manifest.new.store) (OldOrNew manifest_name (Some l) (g.T.Store.files c.args.store.now))) text c.replace_manifest.ensures.stops
