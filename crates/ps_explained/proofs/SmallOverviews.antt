-- What is said of the segments of small links, part by part.
use Rattle.std.proofs.Common.{◌≡◌, ◌++◌, ◌∷◌, [], List, Ok, append_assoc, append-nil, false, refl, ℕ}
use Rattle.std.specs.Fmt.{digits}
use Rattle.std.specs.Str.{chars}
use Rattle.ps_words.specs.declared.order.Order.TheVariants.{Little}
use Rattle.ps_codefile.specs.Dictionary.{OpenedFile, opened_alone}
use Rattle.ps_filetype.specs.Shown.{shown_name, shown_path}
use Rattle.ps_check_segments.specs.Seen.{Seen}
use Rattle.ps_explained.specs.OverviewText.{entries_after, named_entry, overview_text, rest_text, segment_text, slots_without, unused_libraries}
use Rattle.ps_explained.specs.SegmentLines.{has_unread}
use Rattle.ps_explained.specs.SmallOverviews.{aux_segment, aux_text, demo_segment, demo_text, host, libraries, missing_segment, missing_text, paths, rest_of_three, rest_without_aux, three, util_segment, util_text, without_aux}

-- the text of three segments is that of each, and what follows
of_parts : (ps : List (List ℕ)) (h : List ℕ) (libs : List (List ℕ)) (a b c : Seen)
    (f : OpenedFile) (at bt ct rest : List ℕ) → has_unread h libs ≡ false
    → opened_alone h ≡ Ok f → segment_text ps h libs false a ≡ at
    → segment_text ps h libs false b ≡ bt → segment_text ps h libs false c ≡ ct
    → rest_text ps libs (a ∷ b ∷ c ∷ []) f ≡ rest
    → overview_text ps h libs (a ∷ b ∷ c ∷ []) ≡ at ++ (bt ++ (ct ++ rest))
unfolding overview_text
of_parts ps h libs a b c f at bt ct rest none opens of_a of_b of_c after =
    rw (none, opens, of_a, of_b, of_c, after) (simp (append_assoc, append-nil))

opened : OpenedFile
opened = record { order = Little; file = host }

none_unread : has_unread host libraries ≡ false
none_unread = refl

opens_host : opened_alone host ≡ Ok opened
unfolding opened
opens_host = refl

of_demo : segment_text paths host libraries false demo_segment ≡ demo_text
unfolding segment_text shown_name shown_path chars digits
of_demo = refl

of_util : segment_text paths host libraries false util_segment ≡ util_text
unfolding segment_text entries_after named_entry shown_name shown_path chars digits
of_util = refl

of_aux : segment_text paths host libraries false aux_segment ≡ aux_text
unfolding segment_text entries_after named_entry shown_name shown_path chars digits
of_aux = refl

of_missing : segment_text paths host libraries false missing_segment ≡ missing_text
unfolding segment_text shown_name shown_path chars digits
of_missing = refl

after_three : rest_text paths libraries three opened ≡ rest_of_three
unfolding opened slots_without unused_libraries shown_path chars digits
after_three = refl

after_two : rest_text paths libraries without_aux opened ≡ rest_without_aux
unfolding opened slots_without unused_libraries shown_path chars digits
after_two = refl

pub text_of_three : overview_text paths host libraries three
    ≡ demo_text ++ (util_text ++ (aux_text ++ rest_of_three))
text_of_three = of_parts paths host libraries demo_segment util_segment aux_segment opened
    demo_text util_text aux_text rest_of_three none_unread opens_host of_demo of_util of_aux
    after_three

pub text_without_aux : overview_text paths host libraries without_aux
    ≡ demo_text ++ (util_text ++ (missing_text ++ rest_without_aux))
text_without_aux = of_parts paths host libraries demo_segment util_segment missing_segment opened
    demo_text util_text missing_text rest_without_aux none_unread opens_host of_demo of_util
    of_missing after_two
