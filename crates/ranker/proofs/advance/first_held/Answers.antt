use Rattle.std.proofs.Common.{◌∙◌}
use Rattle.ranker.proofs.HeldLemmas.{HoldsEntries-ended, HoldsEntries-open}
use Rattle.ranker.proofs.RankingLemmas.{HoldsFirst-none}
use Rattle.ranker.proofs.WindowLemmas.{AreEntries-none, AreWindows-none, HoldsWindows-none}
use Rattle.ranker.proofs.advance.first_held.Goals as goal

pub returns-then-count-eq0-clause-windows : goal.returns-then-count-eq0-clause-windows
returns-then-count-eq0-clause-windows c = λ docs leaves. rw (c.of.ensures, c.new.ensures.items) (AreWindows-none leaves docs c.args.most)

pub returns-then-count-eq0-clause-entries : goal.returns-then-count-eq0-clause-entries
returns-then-count-eq0-clause-entries c = λ network scaled. HoldsEntries-ended network _

pub returns-clause-windows : goal.returns-clause-windows
returns-clause-windows c = λ docs leaves. HoldsWindows-none leaves docs c.args.most _ c.new-2.ensures.most c.new-2.ensures.kept

pub returns-clause-entries : goal.returns-clause-entries
returns-clause-entries c = λ network scaled. HoldsEntries-open network _ (AreEntries-none network _ (c.new-2.ensures.scale ∙ scaled) c.new-2.ensures.kept)

pub returns-clause-held : goal.returns-clause-held
returns-clause-held c = λ kind priors filters network scaled. HoldsFirst-none kind priors filters network c.args.most _ c.new-2.ensures.most (c.new-2.ensures.scale ∙ scaled) c.new-2.ensures.kept
