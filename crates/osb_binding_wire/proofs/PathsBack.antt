-- What is asked for, and of which binding, comes back from the method and the path.
use Rattle.std.proofs.Common.{◌≡◌, ◌≢◌, ℕ, Bool, true, false, List, ◌++◌, take, drop, All, [], Some, Ok, refl, ap, ◌∙◌}
use Rattle.std.specs.Prelude.{codes, option_map, option_and_then}
use Rattle.std.proofs.lemmas.List.Elements.{All-append}
use Rattle.std.proofs.Math.Seq.{take-append_seam, drop-append_seam}
use Rattle.osb_wire.specs.IdTexts.{number_of}
use Rattle.osb_wire.specs.Paths.{plain_path, segment_of, segment_text}
use Rattle.osb_wire.specs.Targets.{instances_path, last_operation, place_below, after_front, below_instances, Place}
use Rattle.osb_wire.proofs.IdBytes.{plain_segment}
use Rattle.osb_wire.proofs.Paths.{no_mark_in, no_mark_in_segment, no_mark_in_front, slash_before, place_of_segment, place_of_operation, front_back}
use Rattle.osb_binding_wire.specs.Places.{bindings_path, Segments, segments_of, segments_after, segments_as_they_stand, segments_or, segments_in}
use Rattle.osb_binding_wire.specs.Places.{instance_text, binding_text, wanted_at, place_by, place_at, place_in}
use Rattle.osb_binding_wire.specs.Targets.{end_of, path_of}
use Rattle.osb_binding_wire.specs.declared.place.Wanted.{Wanted}

-- ---- no `?` stands in a path

no_mark_in_end : (last : Bool) (text : List ℕ) → All (λ b. b ≢ 63) (end_of last (segment_of text))
no_mark_in_end true text =
    All-append (λ b. b ≢ 63) (segment_of text) last_operation (no_mark_in_segment text) (no_mark_in last_operation refl)
no_mark_in_end false text = no_mark_in_segment text

pub no_mark_in_path : (prefix instance binding : List ℕ) (last : Bool) → All (λ b. b ≢ 63) prefix
    → All (λ b. b ≢ 63) (path_of prefix instance binding last)
no_mark_in_path prefix instance binding last h =
    let end = end_of last (segment_of binding) in
    All-append (λ b. b ≢ 63) prefix (path_of [] instance binding last) h
    (no_mark_in_front (segment_of instance ++ (bindings_path ++ end))
    (All-append (λ b. b ≢ 63) (segment_of instance) (bindings_path ++ end) (no_mark_in_segment instance)
    (All-append (λ b. b ≢ 63) bindings_path end (no_mark_in bindings_path refl) (no_mark_in_end last binding))))

-- ---- the segments of the two ids

binding_place : (last : Bool) (text : List ℕ)
    → place_below (end_of last (segment_of text)) ≡ Some (segment_of text, last)
binding_place true text = place_of_operation text
binding_place false text = place_of_segment text

of_both : (instance end : List ℕ)
    → segments_of instance (bindings_path ++ end) ≡ option_map (λ binding. (instance, binding)) (place_below end)
of_both instance end =
    ap (λ o. option_map (λ (binding : Place). (instance, binding)) (option_and_then place_below o)) (front_back bindings_path end)

split_back : (instance end : List ℕ)
    → segments_after (segment_of instance ++ (bindings_path ++ end)) ≡ segments_of (segment_of instance) (bindings_path ++ end)
split_back instance end =
    let raw = segment_of instance in
    let all = raw ++ (bindings_path ++ end) in
    ap (λ n. segments_of (take n all) (drop n all)) (slash_before raw (codes "service_bindings/" ++ end) (plain_segment instance))
    ∙ (λ i. segments_of (take-append_seam raw (bindings_path ++ end) i) (drop-append_seam raw (bindings_path ++ end) i))

below_back : (prefix rest : List ℕ) → below_instances prefix (prefix ++ (instances_path ++ rest)) ≡ Some rest
below_back prefix rest =
    ap (option_and_then (after_front instances_path)) (front_back prefix (instances_path ++ rest)) ∙ front_back instances_path rest

module _ (prefix instance binding : List ℕ) (last : Bool) where
  abbrev path : List ℕ
  path = path_of prefix instance binding last

  abbrev segments : Segments
  segments = (segment_of instance, (segment_of binding, last))

  standing : segments_as_they_stand prefix path ≡ Some segments
  standing =
      let end = end_of last (segment_of binding) in
      ap (option_and_then segments_after) (below_back prefix (segment_of instance ++ (bindings_path ++ end)))
      ∙ split_back instance end ∙ of_both (segment_of instance) end
      ∙ ap (option_map (λ (place : Place). (segment_of instance, place))) (binding_place last binding)

  segments_back : segments_in prefix path ≡ Some segments
  segments_back = ap (λ o. segments_or o (segments_as_they_stand prefix (plain_path path))) standing

  pub instance_back : segment_text (segment_of instance) ≡ Some instance → instance_text prefix path ≡ Some instance
  instance_back reads = ap (option_and_then (λ (segments : Segments). segment_text segments.0)) segments_back ∙ reads

  pub binding_back : segment_text (segment_of binding) ≡ Some binding → binding_text prefix path ≡ Some binding
  binding_back reads = ap (option_and_then (λ (segments : Segments). segment_text segments.1.0)) segments_back ∙ reads

  pub place_back : (method : List ℕ) (wanted : Wanted) (i b : ℕ) → wanted_at method last ≡ Some wanted
      → segment_text (segment_of instance) ≡ Some instance → segment_text (segment_of binding) ≡ Some binding
      → number_of instance ≡ Some i → number_of binding ≡ Some b
      → place_in prefix method path ≡ Ok (place_by wanted i b)
  place_back method wanted i b wants reads_instance reads_binding is_instance is_binding =
      ap (place_at method) segments_back ∙ rw (wants, reads_instance, reads_binding, is_instance, is_binding) refl
