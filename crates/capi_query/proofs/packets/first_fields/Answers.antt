use Rattle.capi_query.proofs.FieldsFor.{first_part, first-told}
use Rattle.capi_query.proofs.packets.first_fields.Goals as goal

pub slice_bounds-decode-end : goal.slice_bounds-decode-end
slice_bounds-decode-end c = first_part _ _ c.first_length-count.ensures

pub returns : goal.returns
returns c =
    first-told _ _ _ _ c.first_length-count.ensures c.decode.ensures c.fields_of.ensures
