-- Each step on a channel keeps the rule of the queue.
use Rattle.std.proofs.Common.{◌≡◌, ◌≢◌, ℕ, zero, suc, true, true≢false, List, [], ◌∷◌, ◌++◌, length, set, sym, refl, ap, ◌∙◌, subst, ⊎_elim, append_assoc, All}
use Rattle.std.proofs.lemmas.List.Elements.{All-nil, All-push, All-head, All-tail}
use mathlib.Core.Option.{some, some-injective, some-ne-none}
use lib.ListN.{get_elem?}
use Rattle.crossbeam_channel.specs.Fifo.{Pushes, Pops, Forks, Learns}
use Rattle.atomic_table.proofs.Lists.{at_set, at_snoc}
use Rattle.gv_types.specs.declared.request.Request.{Request}
use Rattle.gv_types.specs.Request.{Fits}
use Rattle.gv_queues.specs.declared.pass_knowledge.About.{About}
use Rattle.gv_queues.specs.declared.pass_knowledge.PassKnowledge.{PassKnowledge}
use Rattle.gv_queues.specs.Handover.{about_queue, opening_pass, submitter_pass, worker_pass, KnowsPut, KnowsTaken, TakenThenHeld, Put, Took, HoldsLast}

at_end : (l : List PassKnowledge) (a b : PassKnowledge) (j : ℕ) → get_elem? l j ≢ some b → get_elem? (l ++ a ∷ []) j ≡ some b → j ≡ length l
at_end [] a b zero n e = refl
at_end [] a b (suc j) n e = absurd (some-ne-none b (sym e))
at_end (x ∷ xs) a b zero n e = absurd (n e)
at_end (x ∷ xs) a b (suc j) n e = ap suc (at_end xs a b j n e)

all_behind : {X : Type 0} (P : X → Type 0) (xs ys : List X) → All P (xs ++ ys) → All P ys
all_behind P [] ys all = all
all_behind P (x ∷ xs) ys all = all_behind P xs ys (All-tail P x (xs ++ ys) all)

abbrev Each : (ℕ → PassKnowledge → Type 0) → List PassKnowledge → Type 0
Each F views = (pass : ℕ) (v : PassKnowledge) → get_elem? views pass ≡ some v → F pass v

each_set : (F : ℕ → PassKnowledge → Type 0) (views : List PassKnowledge) (pass : ℕ) (w : PassKnowledge) → F pass w → ((j : ℕ) (u : PassKnowledge) → j ≢ pass → get_elem? views j ≡ some u → F j u) → Each F (set views pass w)
each_set F views pass w mine others j u e =
    ⊎_elim (λ (x : (j ≡ pass) × (w ≡ u)). subst (λ (y : ℕ × PassKnowledge). F y.0 y.1) (λ i. (sym x.0 i, x.1 i)) mine)
    (λ (x : (j ≢ pass) × (get_elem? views j ≡ some u)). others j u x.0 x.1) (at_set views pass j w u e)

abbrev Knows : ℕ → ℕ → About → List Request → List Request → ℕ → PassKnowledge → Type 0
Knows submitter worker about put taken pass v = KnowsPut submitter about put pass v × KnowsTaken worker about taken pass v

pub begins : TakenThenHeld [] (opening_pass ∷ [])
begins = record {
  submitter = 0;
  worker = 0;
  about = about_queue 0 0;
  put = [];
  taken = [];
  in_order = refl;
  fits = All-nil (Fits 0);
  knows = λ j u at. first j u at;
}
  where
    first : (j : ℕ) (u : PassKnowledge) → get_elem? (opening_pass ∷ []) j ≡ some u → Knows 0 0 (about_queue 0 0) [] [] j u
    first zero u at = subst (λ (y : PassKnowledge). Knows 0 0 (about_queue 0 0) [] [] 0 y) (some-injective opening_pass u at) ((λ _. (refl, refl, λ _. refl)), (λ _. (refl, refl, λ _. refl)))
    first (suc j) u at = absurd (some-ne-none u (sym at))

pub forks : (pass : ℕ) (about : About) (v : PassKnowledge) → v ≡ opening_pass → Forks TakenThenHeld pass v (submitter_pass about []) (worker_pass about [])
forks pass about v opening items views h at =
    let l : PassKnowledge = submitter_pass about [] in
    let r : PassKnowledge = worker_pass about [] in
    let may_put : v.puts ≡ true = ap (λ (y : PassKnowledge). y.puts) opening in
    let may_take : v.takes ≡ true = ap (λ (y : PassKnowledge). y.takes) opening in
    let put = (h.knows pass v at).0 may_put in
    let taken = (h.knows pass v at).1 may_take in
    let none_put : h.put ≡ [] = sym put.1 ∙ ap (λ (y : PassKnowledge). y.put) opening in
    let none_taken : h.taken ≡ [] = sym taken.1 ∙ ap (λ (y : PassKnowledge). y.taken) opening in
    let vs : List PassKnowledge = set views pass l in
    let Old : ℕ → PassKnowledge → Type 0 = λ j u. KnowsPut h.submitter about h.put j u × (u.takes ≢ true) in
    let old : Each Old vs = each_set Old views pass l ((λ _. (put.0, sym none_put, λ _. refl)), λ p. true≢false (sym p))
    (λ j u other e. ((λ p. absurd (other (((h.knows j u e).0 p).0 ∙ sym put.0))), λ p. other (((h.knows j u e).1 p).0 ∙ sym taken.0))) in record {
      submitter = h.submitter;
      worker = length vs;
      about = about;
      put = h.put;
      taken = h.taken;
      in_order = h.in_order;
      fits = subst (λ (y : List Request). All (Fits about.timelines) y) (sym none_put) (All-nil (Fits about.timelines));
      knows = λ j u e. ⊎_elim (λ x. ((old j u x).0, λ p. absurd ((old j u x).1 p)))
          (λ (is : r ≡ u). ((λ p. absurd (true≢false (sym (ap (λ (y : PassKnowledge). y.puts) is ∙ p)))), λ p. (at_end vs r u j (λ x. (old j u x).1 p) e, ap (λ (y : PassKnowledge). y.taken) (sym is) ∙ sym none_taken, λ _. ap (λ (y : PassKnowledge). y.about) (sym is))))
          (at_snoc vs r u j e);
    }

pub puts : (depth pass : ℕ) (about : About) (put : List Request) (v : PassKnowledge) (x : Request) → v ≡ submitter_pass about put → Fits about.timelines x → Pushes TakenThenHeld depth pass v x (Put v x)
puts depth pass about put v x is fits items views _ h at =
    let w : PassKnowledge = submitter_pass v.about (v.put ++ x ∷ []) in
    let mine = (h.knows pass v at).0 (ap (λ (y : PassKnowledge). y.puts) is) in
    let same : h.about ≡ about = sym (mine.2 (ap (λ (y : PassKnowledge). y.takes) is)) ∙ ap (λ (y : PassKnowledge). y.about) is in
    let all = h.put ++ x ∷ [] in (
      w,
      record {
        submitter = h.submitter;
        worker = h.worker;
        about = h.about;
        put = all;
        taken = h.taken;
        in_order = ap (λ l. l ++ x ∷ []) h.in_order ∙ append_assoc h.taken items (x ∷ []);
        fits = All-push (Fits h.about.timelines) h.put x h.fits (subst (λ (b : About). Fits b.timelines x) (sym same) fits);
        knows = each_set (Knows h.submitter h.worker h.about all h.taken) views pass w
            ((λ _. (mine.0, ap (λ l. l ++ x ∷ []) mine.1, λ _. mine.2 (ap (λ (y : PassKnowledge). y.takes) is))), λ p. absurd (true≢false (sym p)))
            (λ j u other e. ((λ p. absurd (other (((h.knows j u e).0 p).0 ∙ sym mine.0))), (h.knows j u e).1));
      },
      refl,
    )

pub takes : (pass : ℕ) (about : About) (taken : List Request) (v : PassKnowledge) → v ≡ worker_pass about taken → Pops TakenThenHeld pass v (Took v)
takes pass about taken v is x items views h at =
    let w : PassKnowledge = worker_pass v.about (v.taken ++ x ∷ []) in
    let mine = (h.knows pass v at).1 (ap (λ (y : PassKnowledge). y.takes) is) in
    let same : v.about ≡ h.about = mine.2 (ap (λ (y : PassKnowledge). y.puts) is) in
    let all = h.taken ++ x ∷ [] in
    let left : All (Fits h.about.timelines) (h.taken ++ x ∷ items) = subst (λ (l : List Request). All (Fits h.about.timelines) l) h.in_order h.fits in
    let here : Fits h.about.timelines x = All-head (Fits h.about.timelines) x items (all_behind (Fits h.about.timelines) h.taken (x ∷ items) left) in (
      w,
      record {
        submitter = h.submitter;
        worker = h.worker;
        about = h.about;
        put = h.put;
        taken = all;
        in_order = h.in_order ∙ sym (append_assoc h.taken (x ∷ []) items);
        fits = h.fits;
        knows = each_set (Knows h.submitter h.worker h.about h.put all) views pass w
            ((λ p. absurd (true≢false (sym p))), λ _. (mine.0, ap (λ l. l ++ x ∷ []) mine.1, λ _. same))
            (λ j u other e. ((h.knows j u e).0, λ p. absurd (other (((h.knows j u e).1 p).0 ∙ sym mine.0))));
      },
      (refl, subst (λ (b : About). Fits b.timelines x) (sym same) here),
    )

pub holds_last : (pass : ℕ) (about : About) (put : List Request) (v : PassKnowledge) → v ≡ submitter_pass about put → Learns TakenThenHeld pass v (HoldsLast v)
holds_last pass about put v is items views h at = (h.taken, ((h.knows pass v at).0 (ap (λ (y : PassKnowledge). y.puts) is)).1 ∙ h.in_order)
