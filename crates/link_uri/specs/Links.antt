-- What a link is: a URL of the schemes http and https, without its fragment
-- (URL Standard, sections 4.1, 4.4 and 4.5; RFC 3986, section 3.5 on fragments).
use Rattle.std.specs.Prelude.{◌≡◌, ◌==◌, ℕ, List, [], ◌++◌, decimal, codes, take, bytes_eq, map, Bool, not, ◌&&◌, Option, Some, None, unwrap_or, Ok, Err, if◌then◌else◌}
use Rattle.std.specs.Option.{option_or}
use Rattle.rdf_terms.specs.Lists.{IsIn}
use Rattle.url.specs.Parts.{Parts, serialize, text_between, has_host, has_credentials, host_or_empty}
use Rattle.url.specs.Host.{host_text}
use Rattle.url.specs.Origin.{is_http}
use Rattle.url.specs.Scheme.{default_port}
use Rattle.url.specs.Parser.{Parsed, parse_url, and_then}
use Rattle.url.specs.declared.slicing.Position.TheVariants.{BeforePath, AfterQuery}
use Rattle.link_uri.specs.declared.link.Link.{Link}
use Rattle.link_uri.specs.declared.link.Scheme.{Scheme}
use Rattle.link_uri.specs.declared.link.Scheme.TheVariants.{Http, Https}

-- the URL without its fragment
abbrev pub without_fragment : Parts → Parts
without_fragment url = record url { fragment = None }

-- http or https, with a host, and with no user name or password
abbrev pub is_web : Parts → Bool
is_web url = is_http url.scheme && (has_host url && not (has_credentials url))

-- the scheme of a web URL
abbrev pub scheme_of : Parts → Scheme
scheme_of url = if bytes_eq url.scheme (codes "http") then Http else Https

-- the link that a web URL is
abbrev pub web_link : Parts → Link
web_link url = record {
  text = serialize (without_fragment url);
  scheme = scheme_of url;
  host = host_text (host_or_empty url);
  port = unwrap_or (option_or url.port (default_port url.scheme)) 0;
  target = text_between url BeforePath AfterQuery;
}

-- the link of a URL, and none where it is no web URL
abbrev pub link_of_url : Parts → Option Link
link_of_url url = if is_web url then Some (web_link url) else None

-- the link of what was parsed, and none where the text is no URL
abbrev pub link_of_parsed : Parsed Parts → Option Link
link_of_parsed (Ok url) = link_of_url url
link_of_parsed (Err e) = None

-- the link of a text, which has one where it is a web URL with no user name or password
abbrev pub link_of : List ℕ → Option Link
link_of iri = link_of_parsed (parse_url None iri)

-- the link of a reference that is read against a base (URL Standard, section 4.4)
abbrev pub joined_link : List ℕ → List ℕ → Option Link
joined_link base reference = link_of_parsed (and_then (parse_url None base) (λ url. parse_url (Some url) reference))

-- ---- the parts of a link

-- the text of a scheme
abbrev pub scheme_text : Scheme → List ℕ
scheme_text Http = codes "http"
scheme_text Https = codes "https"

-- the port of a scheme (RFC 9110, section 4.2)
abbrev pub own_port : Scheme → ℕ
own_port Http = 80
own_port Https = 443

-- a port with its colon, and nothing where it is the scheme's own
abbrev pub port_text : Scheme → ℕ → List ℕ
port_text scheme port = if port == own_port scheme then [] else codes ":" ++ decimal port

-- the parts of a link, put together
abbrev pub spelled : Link → List ℕ
spelled link = scheme_text link.scheme ++ (codes "://" ++ (link.host ++ (port_text link.scheme link.port ++ link.target)))

-- the link is the link of its own text, which its parts spell, and its target is an absolute path
pub record IsLink (link : Link) : Type 0 where
  pub valid_link : link_of link.text ≡ Some link
  pub text : link.text ≡ spelled link
  pub rooted : take 1 link.target ≡ codes "/"

-- ---- many links

-- the text of a link
abbrev pub link_text : Link → List ℕ
link_text link = link.text

-- the texts of links, in order
abbrev pub texts : List Link → List (List ℕ)
texts links = map link_text links

-- two links are one where their texts are equal; this is what `==` tests
abbrev pub same_link : Link → Link → Bool
same_link a b = bytes_eq a.text b.text

-- each member is the link of its own text
abbrev pub AreLinks : List Link → Type 0
AreLinks links = (link : Link) → IsIn links link → IsLink link
