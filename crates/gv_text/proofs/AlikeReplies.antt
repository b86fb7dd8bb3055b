-- The same replies are written as the same text.
use Rattle.std.proofs.Common.{◌≡◌, ℕ, List, [], ◌∷◌, ◌++◌, refl, ap, ◌∙◌}
use Rattle.std.specs.Global.{Vec}
use Rattle.std.specs.List.{flat_map}
use Rattle.gv_types.specs.declared.fault.Fault.{Fault}
use Rattle.gv_types.specs.declared.request.Request.{Request}
use Rattle.gv_vm.specs.Alike.{AreAlikeReplies}
use Rattle.gv_vm.specs.declared.event.Reply.{Reply}
use Rattle.gv_vm.specs.declared.event.Reply.TheVariants.{NotPut, Begun}
use Rattle.gv_vm.specs.declared.places.Place.{Place}
use Rattle.gv_text.specs.AlikePlans.{AreAllAlike}
use Rattle.gv_session.specs.Texts.{begun_reply}
use Rattle.gv_session.specs.ReplyTexts.{said, said_of_withdrawal, told}

-- What replies to an event say is the same where it leaves out the requests that they give back, and the memory of places.
pub record ReadsAlike {Y : Type 0} (say : Reply → Y) : Type 0 where
  pub not_put : (fault : Fault) (request request' : Request) → say (NotPut fault request) ≡ say (NotPut fault request')
  pub begun : (job : ℕ) (places places' : Vec Place) → places.items ≡ places'.items → say (Begun job places) ≡ say (Begun job places')

pub same_said : {Y : Type 0} (say : Reply → Y) → ReadsAlike say → (r r' : Reply) → AreAlikeReplies r r' → say r ≡ say r'
same_said say reads (NotPut fault request) (NotPut fault' request') alike =
    ap (λ (f : Fault). say (NotPut f request)) alike.0 ∙ reads.not_put fault' request request'
same_said say reads (Begun job places) (Begun job' places') alike =
    ap (λ (n : ℕ). say (Begun n places)) alike.0 ∙ reads.begun job' places places' alike.1
same_said say reads r r' alike = ap say alike

-- what is written

said_reads : (names timelines : List (List ℕ)) → ReadsAlike (said names timelines)
said_reads names timelines =
    record { not_put = λ fault request request'. refl; begun = λ job places places' same. ap (λ (ps : List Place). begun_reply names job ps) same }

told_reads : (timelines : List (List ℕ)) → ReadsAlike (told timelines)
told_reads timelines = record { not_put = λ fault request request'. refl; begun = λ job places places' same. refl }

withdrawal_reads : (entry : ℕ) → ReadsAlike (said_of_withdrawal entry)
withdrawal_reads entry = record { not_put = λ fault request request'. refl; begun = λ job places places' same. refl }

pub said_alike : (names timelines : List (List ℕ)) (r r' : Reply) → AreAlikeReplies r r' → said names timelines r ≡ said names timelines r'
said_alike names timelines = same_said (said names timelines) (said_reads names timelines)

pub told_alike : (timelines : List (List ℕ)) (r r' : Reply) → AreAlikeReplies r r' → told timelines r ≡ told timelines r'
told_alike timelines = same_said (told timelines) (told_reads timelines)

pub said_of_withdrawal_alike : (entry : ℕ) (r r' : Reply) → AreAlikeReplies r r' → said_of_withdrawal entry r ≡ said_of_withdrawal entry r'
said_of_withdrawal_alike entry = same_said (said_of_withdrawal entry) (withdrawal_reads entry)

-- all that is written for such replies
pub all_said_alike : {Y : Type 0} (say : Reply → List Y) → ((r r' : Reply) → AreAlikeReplies r r' → say r ≡ say r') → (rs rs' : List Reply) → AreAllAlike rs rs' →
    flat_map say rs ≡ flat_map say rs'
all_said_alike say same [] [] alike = refl
all_said_alike say same (r ∷ rs) (r' ∷ rs') alike =
    ap (λ text. text ++ flat_map say rs) (same r r' alike.0) ∙ ap (λ rest. say r' ++ rest) (all_said_alike say same rs rs' alike.1)
all_said_alike say same [] (r' ∷ rs') alike = absurd alike
all_said_alike say same (r ∷ rs) [] alike = absurd alike
