-- What a step leaves as it was, and what it is as an item.
use Rattle.std.proofs.Common.{◌≡◌, ◌⊎◌, inl, inr, ℕ, Bool, true, false, List, Option, None, Some, refl, sym, ap, subst, ◌∙◌, true≢false}
use Rattle.std.specs.Prelude.{unwrap_or, if◌then◌else◌}
use Rattle.store_ends.specs.Files.{Files, Leaves}
use Rattle.store_ends.proofs.Files.{Leaves-same, Leaves-then}
use Rattle.belief_nodes.specs.Priors.{Prior}
use Rattle.refusals.specs.Lines.{refusal_piece}
use Rattle.refusals.specs.declared.refusal.Refusal.TheVariants.{Document, Input}
use Rattle.repository.specs.RealLimits.{AreReal, StandsFor}
use Rattle.repository.specs.Stands.{Collection, Stands}
use Rattle.repository.specs.Writes.{IsEither}
use Rattle.repository.proofs.RealLemmas.{stands-for}
use Rattle.script_reader.specs.State.{is_end}
use Rattle.script_reader.specs.declared.item.Item.{Item}
use Rattle.script_reader.specs.declared.item.Item.TheVariants as item
use Rattle.script_reader.specs.declared.item.Unread.{Unread}
use Rattle.tokens.specs.declared.document.TokenRefusal.{TokenRefusal}
use Rattle.trec_reader.specs.declared.refusal.TrecRefusal.{TrecRefusal}
use Rattle.session_events.specs.declared.event.Event.{Event}
use Rattle.session_events.specs.declared.event.Event.TheVariants as event
use Rattle.desk.specs.declared.reply.Reply.{Reply}
use Rattle.desk.specs.Backed.{IsDeskBacked, Keeps, state_of}
use Rattle.desk.specs.Orders.{IsTrueOf, IsTrueReply}
use Rattle.desk.specs.Plugs.{ArePlugs}
use Rattle.desk.specs.Points as points
use Rattle.desk.specs.Queries.{priors_in}
use Rattle.desk.specs.State.{Query, State, collection_of, named}
use Rattle.desk.specs.Step.{step}
use Rattle.desk.specs.Told as told
use Rattle.desk.specs.Told.{Shows, Told, is_flush_point}
use Rattle.desk.proofs.Staying.{step-stays}
use Rattle.indri_app.specs.Items.{IsNoEvent, item_flushes, item_reply, kept_by, state_behind, unread_reply}
use Rattle.indri_app.specs.Orders.{IsTrueItem, IsTrueTold}
use Rattle.indri_app.specs.Sessions.{IsUnderWay}
use Rattle.indri_app.specs.ToldTexts.{told_reply}
use Rattle.indri_app.proofs.TextLemmas.{hits-text}

-- ---- a session goes on behind a step

module _ (before after : Option Files) (old new : Keeps) (plugs : List Prior) (e : Event) (is : state_of after new ≡ (step (state_of before old) e).0) where
  limits-stay : new.repository.held.limits ≡ old.repository.held.limits
  limits-stay = ap (λ (s : State). s.limits) is ∙ (step-stays (state_of before old) e).limits

  priors-stay : priors_in after new.repository.priors ≡ priors_in before old.repository.priors
  priors-stay = ap (λ (s : State). s.priors) is ∙ (step-stays (state_of before old) e).priors

  pub goes-on : (kept now : Collection) → IsUnderWay before old plugs kept → IsDeskBacked after new → StandsFor now after → IsUnderWay after new plugs now
  goes-on kept now way backed stands = record {
    backed = backed;
    real = subst AreReal (sym limits-stay) way.real;
    stands = stands;
    plugs_are = subst (λ ps. ArePlugs ps plugs) (sym priors-stay) way.plugs_are;
  }

-- ---- a step as an item

choice : (kept now : Collection) (b : Bool) → (if b then now else kept) ≡ unwrap_or (if b then Some now else None) kept
choice kept now true = refl
choice kept now false = refl

pub kept-step : (kept : Collection) (s : State) (e : Event) → points.kept_behind kept (step s e) ≡ kept_by kept s (item.Event e)
unfolding item_flushes
kept-step kept s e = choice kept (collection_of (step s e).0) (is_flush_point (step s e).1)

pub reply-step : (s : State) (e : Event) → told_reply (step s e).1 ≡ item_reply s (item.Event e)
unfolding item_reply
reply-step s e = refl

pub state-step : (s : State) (e : Event) → (step s e).0 ≡ state_behind s (item.Event e)
unfolding state_behind
state-step s e = refl

module _ (before : Option Files) (old : Keeps) (plugs : List Prior) (kept : Collection) (e : Event) (way : IsUnderWay before old plugs kept) where
  -- what the files stand for is that of the state's limits
  pub stands-under : Stands old.repository.held.limits before kept
  stands-under = way.stands old.repository.held.limits way.real

  pub stands-step : (f : Option Files) → Stands old.repository.held.limits f (points.kept_behind kept (step (state_of before old) e)) → StandsFor (kept_by kept (state_of before old) (item.Event e)) f
  stands-step f stands = subst (λ k. StandsFor k f) (kept-step kept (state_of before old) e) (stands-for old.repository.held.limits _ f way.real stands)

  either-step : (f : Option Files) → IsEither old.repository.held.limits kept (points.kept_behind kept (step (state_of before old) e)) f → StandsFor kept f ⊎ StandsFor (kept_by kept (state_of before old) (item.Event e)) f
  either-step f either = elim either [
    | inl same ↦ inl (stands-for old.repository.held.limits kept f way.real same)
    | inr new ↦ inr (stands-step f new)
  ]

  stops-step : (past since : ℕ → Files → Type 0) → Leaves past since (IsEither old.repository.held.limits kept (points.kept_behind kept (step (state_of before old) e)))
      → Leaves past since (λ f. StandsFor kept f ⊎ StandsFor (kept_by kept (state_of before old) (item.Event e)) f)
  stops-step past since leaves = Leaves-then past past since (λ f. StandsFor kept f ⊎ StandsFor (kept_by kept (state_of before old) (item.Event e)) f)
      (IsEither old.repository.held.limits kept (points.kept_behind kept (step (state_of before old) e))) (Leaves-same past _) leaves (λ f either. either-step f either)

  -- what is said of any collection that the files stand for
  pub now-step : (f : Option Files)
      → ((k : Collection) → IsDeskBacked before old → Stands old.repository.held.limits before k → IsEither old.repository.held.limits k (points.kept_behind k (step (state_of before old) e)) f)
      → StandsFor kept f ⊎ StandsFor (kept_by kept (state_of before old) (item.Event e)) f
  now-step f now = either-step f (now kept way.backed stands-under)

  pub left-step : (past since : ℕ → Files → Type 0)
      → ((k : Collection) → IsDeskBacked before old → Stands old.repository.held.limits before k → Leaves past since (IsEither old.repository.held.limits k (points.kept_behind k (step (state_of before old) e))))
      → Leaves past since (λ f. StandsFor kept f ⊎ StandsFor (kept_by kept (state_of before old) (item.Event e)) f)
  left-step past since stops = stops-step past since (stops kept way.backed stands-under)

-- ---- what is shown is in a true order

true-told : (s : State) (q : Query) (t : Told) (r : Reply) → Shows t r → IsTrueOf s (Some q) r → IsTrueTold s (Some q) t
true-told s q (told.results name scale entries) r shows holds =
    record { hits = shows.0; are = shows.1.1; written = hits-text scale shows.0 entries shows.1.1; ordered = subst (IsTrueOf s (Some q)) shows.1.0 holds }
true-told s q (told.added docno tokens) r shows holds = tt
true-told s q (told.deleted docno) r shows holds = tt
true-told s q (told.flushed live) r shows holds = tt
true-told s q (told.merging size) r shows holds = tt
true-told s q (told.turned credit size) r shows holds = tt
true-told s q (told.merged live) r shows holds = tt
true-told s q (told.opened name live) r shows holds = tt
true-told s q (told.stepped name credit live) r shows holds = tt
true-told s q (told.explained line) r shows holds = tt
true-told s q (told.extents found) r shows holds = tt
true-told s q (told.closed name) r shows holds = tt
true-told s q (told.ended live) r shows holds = tt
true-told s q (told.refused why) r shows holds = tt

true-shown : (s : State) (o : Option Query) (t : Told) (r : Reply) → Shows t r → IsTrueOf s o r → IsTrueTold s o t
true-shown s None t r shows holds = tt
true-shown s (Some q) t r shows holds = true-told s q t r shows holds

pub true-step : (s : State) (e : Event) (r : Reply) → Shows (step s e).1 r → IsTrueReply s e r → IsTrueItem s (item.Event e)
true-step s (event.Document d) r shows holds = tt
true-step s (event.Delete docno) r shows holds = tt
true-step s event.Flush r shows holds = tt
true-step s event.Merge r shows holds = tt
true-step s (event.Turn docs) r shows holds = tt
true-step s (event.Open name k text) r shows holds = tt
true-step s (event.Step name docs) r shows holds = tt
true-step s (event.Show name) r shows holds = true-shown s (named name s.queries) (step s (event.Show name)).1 r shows holds
true-step s (event.Explain name rank) r shows holds = tt
true-step s (event.Scan text) r shows holds = tt
true-step s (event.Close name) r shows holds = tt
true-step s event.End r shows holds = tt

-- ---- what is no event

pub no-event : (i : Item) → ((e : Event) → i ≡ item.Event e → ⊥) → IsNoEvent i
no-event (item.Event e) not = not e refl
no-event (item.Unread kind place) not = tt
no-event (item.Trec why) not = tt
no-event (item.Token why) not = tt

pub none-state : (s : State) (i : Item) → IsNoEvent i → s ≡ state_behind s i
unfolding state_behind
none-state s (item.Event e) none = absurd none
none-state s (item.Unread kind place) none = refl
none-state s (item.Trec why) none = refl
none-state s (item.Token why) none = refl

pub none-kept : (kept : Collection) (s : State) (i : Item) → IsNoEvent i → kept ≡ kept_by kept s i
unfolding item_flushes
none-kept kept s (item.Event e) none = absurd none
none-kept kept s (item.Unread kind place) none = refl
none-kept kept s (item.Trec why) none = refl
none-kept kept s (item.Token why) none = refl

pub none-true : (s : State) (i : Item) → IsNoEvent i → IsTrueItem s i
none-true s (item.Event e) none = absurd none
none-true s (item.Unread kind place) none = tt
none-true s (item.Trec why) none = tt
none-true s (item.Token why) none = tt

pub none-way : (told : Option Files) (d : Keeps) (plugs : List Prior) (kept : Collection) (i : Item) → IsNoEvent i → IsUnderWay told d plugs kept → IsUnderWay told d plugs (kept_by kept (state_of told d) i)
none-way told d plugs kept i none way = subst (IsUnderWay told d plugs) (none-kept kept (state_of told d) i none) way

pub unread-reply : (s : State) (kind : Unread) (place : ℕ) → unread_reply kind place ≡ item_reply s (item.Unread kind place)
unfolding item_reply
unread-reply s kind place = refl

pub trec-reply : (s : State) (why : TrecRefusal) → refusal_piece (Input why) ≡ item_reply s (item.Trec why)
unfolding item_reply
trec-reply s why = refl

pub token-reply : (s : State) (why : TokenRefusal) → refusal_piece (Document why) ≡ item_reply s (item.Token why)
unfolding item_reply
token-reply s why = refl

-- ---- behind the end the files stand for what is live

end-step : (kept : Collection) (s : State) → kept_by kept s (item.Event event.End) ≡ collection_of (state_behind s (item.Event event.End))
unfolding item_flushes state_behind step
end-step kept s = refl

pub end-kept : (kept : Collection) (s : State) (i : Item) → is_end (Some i) ≡ true → kept_by kept s i ≡ collection_of (state_behind s i)
end-kept kept s (item.Event (event.Document d)) ends = absurd (true≢false (sym ends))
end-kept kept s (item.Event (event.Delete docno)) ends = absurd (true≢false (sym ends))
end-kept kept s (item.Event event.Flush) ends = absurd (true≢false (sym ends))
end-kept kept s (item.Event event.Merge) ends = absurd (true≢false (sym ends))
end-kept kept s (item.Event (event.Turn docs)) ends = absurd (true≢false (sym ends))
end-kept kept s (item.Event (event.Open name k text)) ends = absurd (true≢false (sym ends))
end-kept kept s (item.Event (event.Step name docs)) ends = absurd (true≢false (sym ends))
end-kept kept s (item.Event (event.Show name)) ends = absurd (true≢false (sym ends))
end-kept kept s (item.Event (event.Explain name rank)) ends = absurd (true≢false (sym ends))
end-kept kept s (item.Event (event.Scan text)) ends = absurd (true≢false (sym ends))
end-kept kept s (item.Event (event.Close name)) ends = absurd (true≢false (sym ends))
end-kept kept s (item.Event event.End) ends = end-step kept s
end-kept kept s (item.Unread kind place) ends = absurd (true≢false (sym ends))
end-kept kept s (item.Trec why) ends = absurd (true≢false (sym ends))
end-kept kept s (item.Token why) ends = absurd (true≢false (sym ends))
