use Rattle.std.proofs.Common.{◌≡◌, ◌<◌, List, ℕ, length, sym, ap, subst, ◌∙◌}
use Rattle.std.specs.List.{All}
use Rattle.seg_codec.specs.Held.{lengths_of, terms_of}
use Rattle.seg_codec.specs.Whole.{IsSound}
use Rattle.seg_codec.proofs.HeldLaws.{terms_counted}
use Rattle.seg_codec.proofs.HeldSteps.{held_if_rebuilt}
use Rattle.seg_codec.proofs.held.documents_held.Goals as goal

pub rebuilt-requires : goal.rebuilt-requires
rebuilt-requires c =
    let w = c.args.whole in
    let terms : c.deref.result.now ≡ terms_of w.terms = c.deref.ensures.value ∙ c.in_ok-terms.ensures in
    record {
      shape = c.requires.ranked.shape ∙ ap lengths_of (sym c.into_entries.ensures);
      sound = subst (All IsSound) (sym c.into_entries.ensures) c.requires.kept.sound;
      known = subst (λ (n : ℕ). All (λ (rs : List ℕ). All (λ r. r < n) rs) c.args.ranks.now) (sym (terms_counted w c.requires.kept) ∙ ap length (sym terms)) c.requires.ranked.full;
    }

pub returns : goal.returns
returns c =
    let terms : c.deref.result.now ≡ terms_of c.args.whole.terms = c.deref.ensures.value ∙ c.in_ok-terms.ensures in
    held_if_rebuilt c.args.whole c.args.ranks.now c.deref.result.now c.into_entries.result.items c.rebuilt.result c.requires.kept c.requires.ranked terms c.into_entries.ensures c.rebuilt.ensures
