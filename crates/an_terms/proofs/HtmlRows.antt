-- HTML texts whose plain texts are computed.
use Rattle.std.proofs.Common.{◌≡◌, refl}
use Rattle.std.specs.Prelude.{codes}
use Rattle.std.specs.Str.{chars}
use lib.Utf8.{encode}
use Rattle.an_terms.specs.Html.{plain_of_html}

no_tag : plain_of_html (codes "1<2") ≡ codes "1<2"
unfolding plain_of_html chars encode
no_tag = refl

line_break : plain_of_html (codes "a<br>b") ≡ codes "a b"
unfolding plain_of_html chars encode
line_break = refl

tags : plain_of_html (codes "a<b>heron</b>s") ≡ codes "a heron s"
unfolding plain_of_html chars encode
tags = refl

sign_in_tag : plain_of_html (codes "a<b<c>d") ≡ codes "a d"
unfolding plain_of_html chars encode
sign_in_tag = refl
